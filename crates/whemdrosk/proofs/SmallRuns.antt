-- A run of k cycles ends 0 or 1 after at most k cycles, with at most 128 records a cycle.
use mathlib.Core.Bool.{Bool, true, false, cond}
use mathlib.Core.List.{List, ◌++◌}
use Prim.Native.Nat.{ℕ, zero, suc, ◌+◌, ◌*◌, ◌≤◌}
use native.Mathlib.Omega.{arith}
use lib.Dec.{eqb, ltb}
use lib.ListN.{length, get_or, length-append}
use Rattle.blocks.specs.declared.Net.{Net}
use Rattle.blocks.specs.declared.State.{State}
use Rattle.cycles.specs.declared.Stepped.{Stepped}
use Rattle.trace.proofs.RecordLists.{records-few}
use Rattle.runs.specs.Runs.{Ran, begun, records_in, onward, step_at, ran_for}

pub record Small (k : ℕ) (p : Ran) : Type 0 where
  pub ends : p.ending ≤ 1
  pub few-cycles : p.cycles ≤ k
  pub few-records : length p.records ≤ 128 * k

pub small-begun : (k : ℕ) (s : State) → Small k (begun s)
small-begun k s = record { ends = omega arith; few-cycles = omega arith; few-records = omega arith }

-- what is small for k cycles is small for more
pub small_more : (k m : ℕ) (p : Ran) → k ≤ m → Small k p → Small m p
small_more k m p l h = record { ends = h.ends; few-cycles = omega arith; few-records = omega arith }

small_one : (k : ℕ) (t : Bool) (p q : Ran) → Small k p → Small k q → Small k (cond t p q)
small_one k true p q g h = g
small_one k false p q g h = h

few_in : (count : ℕ) (t : Stepped) → length (records_in count t) ≤ 128
few_in count t = records-few count (λ c. eqb (get_or t.delivered c 0) 1) (λ c. get_or t.words c 0) 128

-- one more cycle
small-onward : (k room : ℕ) (p : Ran) (t : Stepped) → Small k p → Small (suc k) (onward room p t)
unfolding onward
small-onward k room p t h =
    let new : List ℕ = records_in p.state.count t in
    small_one (suc k) (ltb room (8 * length (p.records ++ new))) (record { state = p.state; ending = 1; cycles = p.cycles; records = p.records })
    (record { state = t.state; ending = 0; cycles = p.cycles + 1; records = p.records ++ new })
    (record { ends = omega arith; few-cycles = omega (arith, h.few-cycles); few-records = omega (arith, h.few-records) })
    (record {
      ends = omega arith;
      few-cycles = omega (arith, h.few-cycles);
      few-records = omega (arith, h.few-records, length-append p.records new, few_in p.state.count t);
    })

pub small-run : (net : Net) (s : State) (words ends masks : List ℕ) (room k : ℕ) → Small k (ran_for net s words ends masks room k)
unfolding ran_for
small-run net s words ends masks room zero = small-begun 0 s
small-run net s words ends masks room (suc k) =
    let p : Ran = ran_for net s words ends masks room k in
    let h : Small k p = small-run net s words ends masks room k in
    small_one (suc k) (eqb p.ending 1) p (onward room p (step_at net words ends masks p.state k)) (small_more k (suc k) p (omega arith) h)
    (small-onward k room p (step_at net words ends masks p.state k) h)
