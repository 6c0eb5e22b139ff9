-- The parts of a case: one behind the other after its three numbers, which say how long they are.
-- Assumes nothing.
use Rattle.std.specs.Prelude.{ℕ, ◌*◌, ◌≤◌, ◌≡◌, List, ◌++◌, length, get_or, take, drop}
use Rattle.trace.specs.Numbers.{numbers_of}
use Rattle.cases.specs.declared.Case.{Case}

-- number i of the three at a file's beginning
abbrev pub number : List ℕ → ℕ → ℕ
number file i = get_or (numbers_of (take 12 file)) i 0

pub record IsParted (file : List ℕ) (c : Case) : Type 0 where
  pub form_long : length c.form.now ≡ number file 0
  pub words_long : length c.words.now ≡ 4 * number file 1
  pub ends-long : length c.ends.now ≡ 4 * number file 2
  pub few_words : number file 1 ≤ 256
  pub few-ends : number file 2 ≤ 64
  pub behind : drop 12 file ≡ c.form.now ++ (c.words.now ++ (c.ends.now ++ c.rest.now))
