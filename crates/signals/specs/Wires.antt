-- The signals of one cycle of a net.
-- Assumes nothing.
use Rattle.std.specs.Prelude.{ℕ, ◌<◌, ◌≡◌, Bool, cond, ◌&&◌, List, ltb, length, get_or}
use Rattle.blocks.specs.Folds.{one}
use Rattle.blocks.specs.declared.Net.{Net}
use Rattle.blocks.specs.declared.Sig.{Sig}
use Rattle.blocks.specs.declared.Reg.{Reg}
use Rattle.passes.specs.Pass.{Holds}
use Rattle.passes.specs.Passed.{ahead, back}

-- every block shows and takes what its equations say
pub record Worked (net : Net) (xs : ℕ → List ℕ) (mask : ℕ → Bool) (r : ℕ → Reg) (X : ℕ → Sig) (Y : ℕ → Bool) : Type 0 where
  pub showing : (b : ℕ) → b < net.size → Holds (ahead net xs mask r b) X
  pub taking : (b : ℕ) → b < net.size → Holds (back net xs mask r X b) Y

-- delivery marks and words of the first n channels, zero where nothing moved
pub record MovedIs (n : ℕ) (X : ℕ → Sig) (Y : ℕ → Bool) (delivered words : List ℕ) : Type 0 where
  pub marks-long : length delivered ≡ 128
  pub words_long : length words ≡ 128
  pub mark : (c : ℕ) → c < 128 → get_or delivered c 0 ≡ one (ltb c n && ((X c).valid && Y c))
  pub word : (c : ℕ) → c < 128 → get_or words c 0 ≡ cond (ltb c n && ((X c).valid && Y c)) (X c).word 0
