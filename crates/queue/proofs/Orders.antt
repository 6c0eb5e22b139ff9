-- The data order of an accepted net as a list of firings: each block whose outputs wait for its inputs stands after the blocks that these come from, and every
-- block stands in it.
-- Assumes nothing.
use Prim.Native.Nat.{ℕ, zero, suc, ◌<◌}
use mathlib.Core.Path.{◌≡◌, sym, ◌∙◌}
use mathlib.Core.Bool.{true, false}
use mathlib.Core.Logic.{◌⊎◌, inl, inr, ⊎_elim}
use mathlib.Core.List.{List, [], ◌∷◌, Memᴰ}
use native.Mathlib.Omega.{arith}
use lib.ListN.{length, get_or}
use Rattle.blocks.specs.Ports.{n_in}
use Rattle.blocks.proofs.Local.{waits}
use Rattle.nets.specs.Net.{fields_ok, connected}
use Rattle.nets.specs.Promises.{InOrder}
use Rattle.blocks.specs.declared.Net.{Net}
use Rattle.cycles.specs.Wires.{View, view_of, kind_at, producer}
use Rattle.cycles.specs.State.{tab}
use Rattle.cycles.proofs.Wiring.{Wired}
use Rattle.cycles.proofs.Joins.{inp_range, leaves, wired}
use Rattle.cycles.proofs.Solution.{earlier}
use Rattle.cycles.proofs.States.{length-tab, get_d_tab}
use Rattle.queue.specs.Machine.{machine_of}
use Rattle.queue.proofs.Machines.{carried, machine_wired}
use Rattle.queue.proofs.Simulation.{Order, finish, next}

-- a stands in the list below index q
abbrev Earlier : List ℕ → ℕ → ℕ → Type 0
Earlier l q a = (p : ℕ) × (p < q) × (get_or l p 0 ≡ a)

-- at each index: a block of the net, and, if it waits for its inputs, what they come from stands earlier, or has been seen
record Sorted (n : View) (w : Wired n) (seen l : List ℕ) (q : ℕ) : Type 0 where
  pub is_block : get_or l q 0 < n.blocks
  pub after : waits (n.kind (get_or l q 0)) ≡ true → (i : ℕ) → i < n_in (n.kind (get_or l q 0))
      → Memᴰ (w.producer (n.inp (get_or l q 0) i)) seen ⊎ Earlier l q (w.producer (n.inp (get_or l q 0) i))

module _ (n : View) (w : Wired n) where
  shift : (a b : ℕ) (seen l : List ℕ) (q : ℕ) → Memᴰ a seen ⊎ Earlier (b ∷ l) (suc q) a → Memᴰ a (b ∷ seen) ⊎ Earlier l q a
  shift a b seen l q (inl m) = inl (Memᴰ.tail m)
  shift a b seen l q (inr e) = go e.0 e.1 e.2
    where
      go : (p : ℕ) → p < suc q → get_or (b ∷ l) p 0 ≡ a → Memᴰ a (b ∷ seen) ⊎ Earlier l q a
      go zero h z = inl (Memᴰ.head (sym z))
      go (suc p) h z = inr (p, omega arith, z)

  order_from : (seen l : List ℕ) → ((q : ℕ) → q < length l → Sorted n w seen l q) → Order n w seen l
  order_from seen [] h = finish
  order_from seen (b ∷ l) h =
      next (h 0 (omega arith)).is_block
      (λ e i hi. ⊎_elim (λ m. m) (λ x. absurd (omega (arith, x.1))) ((h 0 (omega arith)).after e i hi))
      (order_from (b ∷ seen) l (λ q hq. record { is_block = (h (suc q) (omega arith)).is_block; after = λ e i hi. shift (w.producer (n.inp (get_or l q 0) i)) b seen l q ((h (suc q) (omega arith)).after e i hi) }))

in_list : (l : List ℕ) (q b : ℕ) → q < length l → get_or l q 0 ≡ b → Memᴰ b l
in_list [] q b h e = absurd (omega arith)
in_list (a ∷ l) zero b h e = Memᴰ.head (sym e)
in_list (a ∷ l) (suc q) b h e = Memᴰ.tail (in_list l q b (omega arith) e)

module _ (net : Net) (words ends : List ℕ) (choices : ℕ → List ℕ) (ok : fields_ok net ≡ true) (joins : connected net ≡ true) (order : List ℕ) (o : InOrder net false order) where
  -- the blocks of the net in their order
  abbrev pub sequence : List ℕ
  sequence = tab net.size (λ k. get_or order k 0)

  at : (q : ℕ) → q < net.size → get_or sequence q 0 ≡ get_or order q 0
  at q h = get_d_tab net.size (λ k. get_or order k 0) 0 q h

  sorted : (q : ℕ) → q < net.size → Sorted (machine_of net words ends choices) (machine_wired net words ends choices ok joins) [] sequence q
  unfolding wired machine_wired
  sorted q h =
      let l : (get_or order q 0 < net.size) × (o.place (get_or order q 0) ≡ q) = o.listed q h in
      record { is_block = rw (at q h) l.0; after = rw (at q h) (λ wt i hi. inr (machine-before (get_or order q 0) i l.0 l.1 wt hi)) }
    where
      before : (b i : ℕ) → b < net.size → o.place b ≡ q → waits (kind_at net words ends b) ≡ true → i < n_in (kind_at net words ends b)
          → Earlier sequence q (producer net ((view_of net words ends).inp b i))
      before b i hb e wt hi =
          let a : ℕ = producer net ((view_of net words ends).inp b i) in
          let ha : a < net.size = (leaves net words ends ok joins ((view_of net words ends).inp b i) (inp_range net words ends ok joins b i hb hi)).0 in
          let less : o.place a < o.place b = earlier net words ends ok joins order o b i hb wt hi in
          let stand = o.stands a ha in
          (o.place a, omega arith, at (o.place a) stand.0 ∙ stand.1)

      machine-before : (b i : ℕ) → b < net.size → o.place b ≡ q → waits ((machine_of net words ends choices).kind b) ≡ true → i < n_in ((machine_of net words ends choices).kind b)
          → Earlier sequence q (producer net ((view_of net words ends).inp b i))
      machine-before b i hb e =
          carried net words ends choices (λ K. waits K ≡ true → i < n_in K → Earlier sequence q (producer net ((view_of net words ends).inp b i))) (λ m cs h. h) b (before b i hb e)

  pub ordered : Order (machine_of net words ends choices) (machine_wired net words ends choices ok joins) [] sequence
  ordered =
      order_from (machine_of net words ends choices) (machine_wired net words ends choices ok joins) [] sequence
      (λ q h. sorted q (omega (arith, length-tab net.size (λ k. get_or order k 0))))

  pub everywhere : (b : ℕ) → b < net.size → Memᴰ b sequence
  everywhere b hb =
      let stand = o.stands b hb in
      in_list sequence (o.place b) b (omega (arith, stand.0, length-tab net.size (λ k. get_or order k 0))) (at (o.place b) stand.0 ∙ stand.1)
