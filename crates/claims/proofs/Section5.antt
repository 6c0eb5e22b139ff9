-- The claims of specs/Section5.antt, proved: each is a law of crates queue and cycles at `accepted net` (proofs/Theorems.antt carries lists of steps over).
-- Assumes nothing.
use Prim.Native.Nat.{ℕ, ◌<◌}
use mathlib.Core.Path.{◌≡◌, refl, sym, ap, ap₂, ◌∙◌, subst, subst₂, fun_ext}
use mathlib.Core.Bool.{Bool, true, false, cond, ◌&&◌}
use mathlib.Core.List.{List, [], ◌∷◌, ◌++◌, IsPrefix}
use native.Mathlib.Omega.{arith}
use borrow.Author.Tests.{lt-ltb}
use lib.Dec.{eqb}
use lib.ListN.{get_or}
use Rattle.blocks.specs.Folds.{one}
use Rattle.blocks.specs.Kinds.{kind_of}
use Rattle.blocks.specs.Ports.{n_in}
use Rattle.blocks.proofs.Folds.{clash, and_2}
use Rattle.blocks.proofs.Numbers.{by_kind}
use Rattle.blocks.proofs.Emptied.{storing}
use Rattle.nets.specs.Net.{block_at}
use Rattle.blocks.specs.declared.Net.{Net}
use Rattle.nets.proofs.Nets.{channels-high}
use Rattle.nets.proofs.Decided.{accepted, accepted_true}
use Rattle.cycles.specs.Streams.{stream_of}
use Rattle.cycles.specs.Wires.{view_of, kind_at}
use Rattle.cycles.specs.Cycle.{Signals, signals_of}
use Rattle.cycles.specs.State.{regs_of}
use Rattle.cycles.specs.Step.{refusal_by}
use Rattle.blocks.specs.declared.State.{State}
use Rattle.cycles.specs.declared.Stepped.{Stepped}
use Rattle.cycles.proofs.Joins.{ins_are, inp_range}
use Rattle.cycles.proofs.Steps.{step-worked, mark_at}
use Rattle.cycles.proofs.Sustained.{keeps_stepped}
use Rattle.cycles.proofs.Emptying.{emptied_stepped}
use Rattle.queue.specs.Machine.{machine_of, put_by}
use Rattle.queue.specs.Delivered.{Input, over, offered, delivered, with_next, report, choices}
use Rattle.queue.specs.History.{WholeFirings}
use Rattle.queue.specs.Claims.{IsAccepted, any_buffer}
use Rattle.queue.proofs.Waits.{waits, report_in, choices_are}
use Rattle.queue.proofs.Guarantee.{offers_ever, offers_next as machine-offers-next, only_buffers_hold as machine-only-buffers-hold}
use Rattle.handshake.specs.Table.{Column, column_at, table_from, offered_first, Protocol}
use Rattle.handshake.proofs.Protocol.{table-protocol, ever_is}
use Rattle.sim.specs.Calls.{fresh_of, step_of}
use Rattle.claims.specs.Promised.{step_in, delivered_of, end_state_of}
use Rattle.claims.specs.Section5.{StaysOffered, with_next_of, OffersNext, table_of, DeliveredOffered, ever_offered, OffersBegin, ChoicesOffered, OnlyBuffersHold, NothingLeft}
use Rattle.claims.proofs.Theorems.{same_from, same_delivered, same_end, same_chosen, refusal_is}

-- ## The delivery mark of a step that is not refused

module _ (net : Net) (acc : accepted net ≡ true) (s : State) (words ends : List ℕ) (offer ready : ℕ) where
  abbrev cycle : Signals
  cycle = signals_of net words ends offer ready (regs_of s)

  mark_of : refusal_by (accepted net) net s words ends false 1 ≡ 0 → (c : ℕ) → c < net.channels
      → get_or (step_of net s words ends offer ready).delivered c 0 ≡ one ((cycle.shows c).valid && cycle.ready c)
  unfolding step_of
  mark_of e c h =
      ap (λ (t : Stepped). get_or t.delivered c 0) (step-worked (accepted net) net s words ends offer ready e)
      ∙ mark_at net s words ends cycle c (omega (arith, channels-high net (accepted_true net acc).0.fields))
      ∙ ap (λ (t : Bool). one (t && ((cycle.shows c).valid && cycle.ready c))) (lt-ltb c net.channels h)

-- a mark of 0 on a channel that is valid: it is not ready
not-ready : (v y : Bool) → v ≡ true → one (v && y) ≡ 0 → y ≡ false
not-ready true false e q = refl
not-ready true true e q = absurd (omega arith)
not-ready false y e q = clash e refl

-- a mark of 1: it is valid and ready
is_marked : (t : Bool) → one t ≡ 1 → t ≡ true
is_marked true e = refl
is_marked false e = absurd (omega arith)

-- ## What is offered stays, and is next

pub stays-offered : StaysOffered
unfolding step_of
stays-offered net acc s words ends offer ready e c h v q offer' ready' =
    let g : Signals = signals_of net words ends offer ready (regs_of s) in
    let z : refusal_by (accepted net) net s words ends false 1 ≡ 0 = refusal_is net s words ends offer ready ∙ e in
    keeps_stepped net (accepted_true net acc) words ends offer ready offer' ready' (accepted net) s z c h v
    (not-ready (g.shows c).valid (g.ready c) v (sym (mark_of net acc s words ends offer ready z c h) ∙ q))

pub offers_next : OffersNext
offers_next net words ends acc masks offer ready =
    let g = machine-offers-next (accepted net) net words ends acc (accepted_true net acc) masks offer ready in
    let same : (c : ℕ) → with_next (accepted net) net words ends masks offer ready c ≡ with_next_of net words ends masks offer ready c =
    λ c. ap₂ (λ (l : List ℕ) (s : State). l ++ offered (signals_of net words ends offer ready (regs_of s)) c)
    (same_delivered net words ends masks c) (same_end net words ends masks) in (
      g.0,
      g.1,
      λ c h.
          subst₂ (λ (l : List ℕ) (chosen : ℕ → List ℕ). IsPrefix l (put_by net words ends chosen g.0 c)) (same c) (fun_ext (λ b. same (report net b))) (g.2 c h),
    )

-- ## The table of a channel

same_table : (net : Net) (s : State) (ns : List Input) (c : ℕ) → table_from (accepted net) net s ns c ≡ table_of net s ns c
unfolding step_of
same_table net s [] c = refl
same_table net s (n ∷ ns) c =
    ap (λ (l : List Column). cond (eqb (step_in net s n).refusal 0) (column_at net s n c ∷ []) [] ++ l) (same_table net (step_in net s n).state ns c)

pub delivered-offered : DeliveredOffered
delivered-offered net words ends acc s steps same c h =
    subst₂ Protocol (same_table net s steps c) (same_from net s steps c)
    (table-protocol (accepted net) net words ends (accepted_true net acc) c h steps same s)

-- the words ever offered are the words delivered, and then the one that waits
ever_same : (net : Net) (words ends : List ℕ) → accepted net ≡ true → (masks : List (ℕ × ℕ)) (c : ℕ) → c < net.channels
    → delivered (accepted net) net words ends masks c ++ waits (accepted net) net words ends masks c ≡ ever_offered net words ends masks c
unfolding fresh_of
ever_same net words ends acc masks c h =
    sym (ever_is (accepted net) net words ends (accepted_true net acc) masks c h)
    ∙ ap (λ (l : List Column). offered_first false l) (same_table net (fresh_of net).state (over words ends masks) c)

pub offers_begin : OffersBegin
offers_begin net words ends acc masks =
    let f = offers_ever (accepted net) net words ends acc (accepted_true net acc) masks in (
      f.0,
      f.1,
      λ c h.
          subst₂ (λ (l : List ℕ) (chosen : ℕ → List ℕ). IsPrefix l (put_by net words ends chosen f.0 c)) (ever_same net words ends acc masks c h)
          (fun_ext (same_chosen net words ends masks)) (f.2 c h),
    )

pub choices-offered : ChoicesOffered
choices-offered net words ends acc masks b hb e =
    let ok : IsAccepted net = accepted_true net acc in
    sym (same_chosen net words ends masks b) ∙ choices_are net words ends ok (accepted net) acc masks b hb e
    ∙ ever_same net words ends acc masks (report net b) (report_in net words ends ok b hb e)

-- ## Only buffers hold words

pub only_buffers_hold : OnlyBuffersHold
only_buffers_hold net words ends acc masks b hb =
    subst
    (λ (chosen : ℕ → List ℕ). WholeFirings ((machine_of net words ends chosen).kind b) (regs_of (end_state_of net words ends masks) b)
    (λ i. delivered_of net words ends masks ((view_of net words ends).inp b i)) (λ j. delivered_of net words ends masks ((view_of net words ends).out b j)))
    (fun_ext (same_chosen net words ends masks))
    (subst₂
    (λ (D : ℕ → List ℕ) (s : State). WholeFirings ((machine_of net words ends (choices (accepted net) net words ends masks)).kind b) (regs_of s b)
    (λ i. D ((view_of net words ends).inp b i)) (λ j. D ((view_of net words ends).out b j)))
    (fun_ext (same_delivered net words ends masks)) (same_end net words ends masks)
    (machine-only-buffers-hold (accepted net) net words ends acc (accepted_true net acc) masks b hb))

-- a kind that is no buffer by its number is none by its name
none_stored : (m value : ℕ) (xs : List ℕ) (k : ℕ) → any_buffer k ≡ false → storing (kind_of k m value xs) ≡ false
none_stored m value xs =
    by_kind (λ k. any_buffer k ≡ false → storing (kind_of k m value xs) ≡ false) (λ e. refl) (λ e. refl) (λ e. refl) (λ e. refl) (λ e. refl) (λ e. refl) (λ e. refl) (λ e. refl)
    (λ e. clash refl e) (λ e. clash refl e) (λ e. clash refl e) (λ k e. refl)

pub nothing_left : NothingLeft
unfolding step_of
nothing_left net acc s words ends offer ready e b hb plain i hi q =
    let g : Signals = signals_of net words ends offer ready (regs_of s) in
    let ok : IsAccepted net = accepted_true net acc in
    let z : refusal_by (accepted net) net s words ends false 1 ≡ 0 = refusal_is net s words ends offer ready ∙ e in
    let c : ℕ = (view_of net words ends).inp b i in
    let here : i < n_in (kind_at net words ends b) = omega (arith, ins_are net words ends ok.0.fields ok.0.joins b hb) in
    let moves : ((g.shows c).valid && g.ready c) ≡ true =
    is_marked ((g.shows c).valid && g.ready c) (sym (mark_of net acc s words ends offer ready z c (inp_range net words ends ok.0.fields ok.0.joins b i hb here)) ∙ q) in
    emptied_stepped net ok words ends offer ready (accepted net) s z b hb
    (none_stored (block_at net b).m (block_at net b).value (stream_of net words ends b) (block_at net b).kind plain) i here (and_2 (g.shows c).valid (g.ready c) moves)
