-- A computed test for an accepted net: its fields, connections, sources and sinks, and numbers for its blocks that grow along every channel but into a
-- buffer, once for data buffers and once for control buffers.
-- Assumes nothing.
use mathlib.Core.Path.{◌≡◌, sym, ap, ◌∙◌, subst}
use mathlib.Core.Bool.{Bool, true, false, ◌&&◌, ◌||◌}
use mathlib.Core.List.{List}
use Prim.Native.Nat.{ℕ, ◌/◌, ◌<◌}
use borrow.Author.Tests.{ltb-true}
use lib.Dec.{ltb}
use lib.ListN.{get_or}
use Rattle.loops.proofs.Cycle.{no_loop}
use Rattle.blocks.specs.Folds.{all_below}
use Rattle.blocks.proofs.Folds.{and_1, and_2, all_at, or_other}
use Rattle.nets.specs.Block.{ins}
use Rattle.nets.specs.Net.{block_at, fields_ok, connected, few_ends, place_of}
use Rattle.nets.specs.Loops.{FreeLoop, is_buffer}
use Rattle.nets.specs.Verdict.{Joined, VerdictIs, Accepted}
use Rattle.blocks.specs.declared.Net.{Net}
use Rattle.nets.proofs.Blocks.{side_input}
use Rattle.nets.proofs.FreeLoops.{LeadsFree, by_ends}
use Rattle.nets.proofs.Places.{inp_range, the_end}

-- the number grows from the producer of input i of block b to b
abbrev pub grows_at : Net → List ℕ → ℕ → ℕ → Bool
grows_at net ranks b i = ltb (get_or ranks (place_of net true (get_or (block_at net b).ports i 0) / 10) 0) (get_or ranks b 0)

abbrev pub rises_at : Net → Bool → List ℕ → ℕ → Bool
rises_at net control ranks b = is_buffer control (block_at net b).kind || all_below (grows_at net ranks b) (ins (block_at net b))

unfoldable pub rises : Net → Bool → List ℕ → Bool
rises net control ranks = all_below (rises_at net control ranks) net.size

module _ (net : Net) (j : Joined net) where
  no_free : (control : Bool) (ranks : List ℕ) → rises net control ranks ≡ true → FreeLoop net control → ⊥
  unfolding rises
  no_free control ranks t l = no_loop (LeadsFree net control) (λ a. get_or ranks a 0) up (by_ends net control l)
    where
      up : (c a b : ℕ) → LeadsFree net control c a b → get_or ranks a 0 < get_or ranks b 0
      up c a b x =
          let i : ℕ = x.leads.enters.port in
          let hb : b < net.size = x.leads.enters.in_net in
          let hi : i < ins (block_at net b) = side_input (block_at net b) i x.leads.enters.on_side_lem in
          let e : get_or (block_at net b).ports i 0 ≡ c = x.leads.enters.names in
          let hc : c < net.channels = subst (λ (d : ℕ). d < net.channels) e (inp_range net j.fields b i hb hi) in
          let a-is : a ≡ place_of net true c / 10 = (the_end net j.fields j.joins true c hc).only a x.leads.leaves in
          let grow : grows_at net ranks b i ≡ true =
          all_at (grows_at net ranks b) (ins (block_at net b))
          (or_other (is_buffer control (block_at net b).kind) (all_below (grows_at net ranks b) (ins (block_at net b)))
          (all_at (rises_at net control ranks) net.size t b hb) x.to_free) i hi in
          let less : get_or ranks (place_of net true (get_or (block_at net b).ports i 0) / 10) 0 < get_or ranks b 0 = ltb-true _ (get_or ranks b 0) grow in
          subst (λ (d : ℕ). get_or ranks d 0 < get_or ranks b 0) (ap (λ (d : ℕ). place_of net true d / 10) e ∙ sym a-is) less

  pub accepted_by : (forth back : List ℕ) → rises net false forth ≡ true → rises net true back ≡ true → VerdictIs net Accepted
  accepted_by forth back d c = (j, (no_free false forth d, no_free true back c))

-- the whole test
unfoldable pub acceptable : Net → List ℕ → List ℕ → Bool
acceptable net forth back = fields_ok net && (connected net && (few_ends net && (rises net false forth && rises net true back)))

pub accepted_test : (net : Net) (forth back : List ℕ) → acceptable net forth back ≡ true → VerdictIs net Accepted
unfolding acceptable
accepted_test net forth back e =
    let a : (connected net && (few_ends net && (rises net false forth && rises net true back))) ≡ true = and_2 (fields_ok net) _ e in
    let b : (few_ends net && (rises net false forth && rises net true back)) ≡ true = and_2 (connected net) _ a in
    let c : (rises net false forth && rises net true back) ≡ true = and_2 (few_ends net) _ b in
    accepted_by net (record { fields = and_1 (fields_ok net) _ e; joins = and_1 (connected net) _ a; ends = and_1 (few_ends net) _ b })
    forth back (and_1 (rises net false forth) _ c) (and_2 (rises net false forth) _ c)
