-- Laws of a block's history: longer input lists change nothing of what is past, nor do shorter ones that still have every word taken.
-- Assumes nothing.
use Prim.Native.Nat.{ℕ, zero, suc, ◌+◌, ◌-◌, ◌≤◌, ◌<◌}
use mathlib.Core.Path.{◌≡◌, refl, sym, ap, ◌∙◌, subst}
use mathlib.Core.List.{List, ◌++◌, IsPrefix}
use mathlib.Core.Option.{Option, some}
use native.Mathlib.Nat.{add-zero, add-suc}
use native.Mathlib.Omega.{arith}
use borrow.Author.Count.{below_more}
use lib.ListN.{length}
use Rattle.blocks.specs.Kinds.{Kind}
use Rattle.blocks.specs.Ports.{n_in}
use Rattle.blocks.specs.Firing.{Turn}
use Rattle.blocks.proofs.Options.{Below}
use Rattle.blocks.proofs.Turns.{turn-needs, turn_below}
use Rattle.queue.specs.History.{takes_of, gives_of, front, pos, turn_at, got}
use Rattle.queue.proofs.Words.{prefix_refl, prefix_more, prefix_trans, look_prefix, look_short}

-- Firing number `k` can be done.
abbrev pub Can : Kind → (ℕ → List ℕ) → ℕ → Type 0
Can K ins k = (t : Turn) × (turn_at K ins k ≡ some t)

-- Those below `k`, and `k`.
pub can_suc : (K : Kind) (ins : ℕ → List ℕ) (k : ℕ) → ((q : ℕ) → q < k → Can K ins q) → Can K ins k → (q : ℕ) → q < suc k → Can K ins q
can_suc K ins k below last q h = below_more (λ (x : ℕ). Can K ins x) k below last q (omega arith)

-- Longer input lists.
abbrev pub Longer : Kind → (ℕ → List ℕ) → (ℕ → List ℕ) → Type 0
Longer K ins more = (i : ℕ) → i < n_in K → IsPrefix (ins i) (more i)

pub record Same (K : Kind) (ins more : ℕ → List ℕ) (k : ℕ) : Type 0 where
  pub pos_same : (i : ℕ) → i < n_in K → pos K more k i ≡ pos K ins k i
  pub got_same : (j : ℕ) → got K more k j ≡ got K ins k j

module _ (K : Kind) (ins more : ℕ → List ℕ) (longer : Longer K ins more) where
  -- Where the past is the same, a firing that could be done is done the same.
  pub turn_same : (k : ℕ) → Same K ins more k → Below (turn_at K ins k) (turn_at K more k)
  turn_same k s = turn_below K k _ _ (λ i h w e. rw (s.pos_same i h) (look_prefix (ins i) (more i) (longer i h) (pos K ins k i) w e))

  same_suc : (k : ℕ) → Same K ins more k → turn_at K more k ≡ turn_at K ins k → Same K ins more (suc k)
  same_suc k s e =
      record {
        pos_same = λ i h. ap (λ (o : Option Turn). pos K more k i + takes_of o i) e ∙ ap (λ (n : ℕ). n + takes_of (turn_at K ins k) i) (s.pos_same i h);
        got_same = λ j. ap (λ (o : Option Turn). got K more k j ++ gives_of o j) e ∙ ap (λ (l : List ℕ). l ++ gives_of (turn_at K ins k) j) (s.got_same j);
      }

  pub same : (k : ℕ) → ((q : ℕ) → q < k → Can K ins q) → Same K ins more k
  same zero can = record { pos_same = λ i h. refl; got_same = λ j. refl }
  same (suc k) can =
      let s : Same K ins more k = same k (λ q h. can q (omega arith)) in
      let c : Can K ins k = can k (omega arith) in
      same_suc k s (turn_same k s c.0 c.1 ∙ sym c.1)

  pub can_longer : (k : ℕ) → ((q : ℕ) → q < k → Can K ins q) → Can K ins k → Can K more k
  can_longer k can c = (c.0, turn_same k (same k can) c.0 c.1)

  -- Where the shorter lists have every word that a firing over the longer ones takes, it is done the same over them.
  turn_short : (k : ℕ) → Same K ins more k → (t : Turn) → turn_at K more k ≡ some t → ((i : ℕ) → i < n_in K → pos K more k i + t.takes i ≤ length (ins i)) → turn_at K ins k ≡ some t
  turn_short k s t e room =
      turn-needs K k (front more (pos K more k)) (front ins (pos K ins k)) t e
      (λ i h one-taken w z. rw (← (s.pos_same i h)) (look_short (ins i) (more i) (longer i h) (pos K more k i) (omega (arith, room i h, one-taken)) w z))

  pub same_short : (k : ℕ) → ((q : ℕ) → q < k → Can K more q) → ((i : ℕ) → i < n_in K → pos K more k i ≤ length (ins i)) → Same K ins more k
  same_short zero can room = record { pos_same = λ i h. refl; got_same = λ j. refl }
  same_short (suc k) can room =
      let s : Same K ins more k = same_short k (λ q h. can q (omega arith)) (λ i h. omega (arith, room i h)) in
      let c : Can K more k = can k (omega arith) in
      same_suc k s (c.1 ∙ sym (turn_short k s c.0 c.1 (λ i h. subst (λ (o : Option Turn). pos K more k i + takes_of o i ≤ length (ins i)) c.1 (room i h))))

-- What stands on an output only grows.
got_adds : (K : Kind) (ins : ℕ → List ℕ) (j k n : ℕ) → IsPrefix (got K ins k j) (got K ins (k + n) j)
got_adds K ins j k zero = rw add-zero (prefix_refl (got K ins k j))
got_adds K ins j k (suc n) = rw add-suc (prefix_trans (got K ins k j) (got K ins (k + n) j) (got K ins (suc (k + n)) j) (got_adds K ins j k n) (prefix_more (got K ins (k + n) j) (gives_of (turn_at K ins (k + n)) j)))

pub got-grows : (K : Kind) (ins : ℕ → List ℕ) (j k n : ℕ) → k ≤ n → IsPrefix (got K ins k j) (got K ins n j)
got-grows K ins j k n h = let e : k + (n - k) ≡ n = omega arith in subst (λ (q : ℕ). IsPrefix (got K ins k j) (got K ins q j)) e (got_adds K ins j k (n - k))
