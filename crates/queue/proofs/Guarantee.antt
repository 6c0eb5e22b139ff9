-- The claims of specs/Claims.antt, proved: what is offered, with it the guarantee, and that only buffers hold words, by following the steps with firings;
-- comparability by moving firings; the buffer law from one cycle of a buffer.
-- Assumes nothing.
use Prim.Native.Nat.{ℕ, ◌<◌}
use mathlib.Core.Path.{◌≡◌, refl, ap, subst}
use mathlib.Core.Bool.{Bool, true, false}
use mathlib.Core.List.{List, [], ◌++◌, IsPrefix, Memᴰ}
use native.Mathlib.Omega.{arith}
use Rattle.blocks.specs.Kinds.{Kind, merge}
use Rattle.blocks.specs.Ports.{n_out}
use Rattle.blocks.proofs.Folds.{clash}
use Rattle.nets.specs.Net.{block_at}
use Rattle.blocks.specs.declared.Net.{Net}
use Rattle.nets.proofs.Nets.{channels-high}
use Rattle.cycles.specs.Wires.{View}
use Rattle.cycles.specs.State.{regs_of}
use Rattle.cycles.proofs.Solution.{orders}
use Rattle.queue.specs.Machine.{Queues, run, start, machine_of, put_by}
use Rattle.queue.specs.Delivered.{over, delivered, end_state, with_next, report, choices}
use Rattle.queue.specs.History.{got}
use Rattle.queue.specs.Claims.{
  IsAccepted,
  Comparable,
  Guaranteed,
  OffersNext,
  OnlyBuffersHold,
  FiringsComparable,
  StepsComparable,
  GuaranteedMerges,
  ChoicesComparable,
  ChoicesDecide,
  ChoicesUnread,
  ChoicesInRange,
  BuffersKeep,
}
use Rattle.queue.proofs.Words.{prefix_refl, prefix_more, prefix_trans, prefix_in, longer, begins_longer}
use Rattle.queue.proofs.Confluence.{beginnings_comparable, comparable as view-comparable}
use Rattle.queue.proofs.Machines.{machine_merge, machine_wired, unread}
use Rattle.queue.proofs.Sound.{ins_of}
use Rattle.queue.proofs.Choices.{report-below}
use Rattle.queue.proofs.Marks.{none-delivered}
use Rattle.queue.proofs.Whole.{whole}
use Rattle.queue.proofs.Waits.{waits, report_in, choices_are}
use Rattle.queue.proofs.Following.{Firings, from_fresh, offers-after}
use Rattle.queue.proofs.Buffers.{from_fresh as buffers-from-fresh}

-- ## Steps, followed by firings

-- every merge's choices begin with those that the steps make
abbrev Begun : Bool → Net → List ℕ → List ℕ → List (ℕ × ℕ) → (ℕ → List ℕ) → Type 0
Begun ok net words ends masks chosen = (b : ℕ) → b < net.size → (block_at net b).kind ≡ 7 → IsPrefix (choices ok net words ends masks b) (chosen b)

abbrev pub Inside : Net → List ℕ → Type 0
Inside net F = (b : ℕ) → Memᴰ b F → b < net.size

-- firings that follow the steps
followed : (net : Net) (words ends : List ℕ) (acc : IsAccepted net) (masks : List (ℕ × ℕ)) (chosen : ℕ → List ℕ) → Begun true net words ends masks chosen
    → Firings true net words ends acc chosen (orders net acc) (delivered true net words ends masks) (waits true net words ends masks) (end_state true net words ends masks)
followed net words ends acc masks chosen h =
    from_fresh true net words ends acc chosen (orders net acc) masks
    (λ b hb e. subst (λ (l : List ℕ). IsPrefix l (chosen b)) (choices_are net words ends acc true refl masks b hb e) (h b hb e))

made : (ok : Bool) (net : Net) (words ends : List ℕ) (masks : List (ℕ × ℕ)) → Begun ok net words ends masks (choices ok net words ends masks)
made ok net words ends masks b hb e = prefix_refl (choices ok net words ends masks b)

-- With the choices made ONE list of firings of the net's blocks puts, on every channel, the words delivered there and then the one that waits there at the beginning.
pub offers_ever : (ok : Bool) (net : Net) (words ends : List ℕ) → ok ≡ true → IsAccepted net → (masks : List (ℕ × ℕ))
    → (F : List ℕ) × Inside net F
    × ((c : ℕ) → c < net.channels
    → IsPrefix (delivered ok net words ends masks c ++ waits ok net words ends masks c) (put_by net words ends (choices ok net words ends masks) F c))
offers_ever true net words ends e acc masks =
    let f = followed net words ends acc masks (choices true net words ends masks) (made true net words ends masks) in
    (f.0, f.1.inside, f.1.ever)
offers_ever false net words ends e acc masks = clash e refl

-- With one more cycle, the word offered there.
pub offers_next : OffersNext
offers_next true net words ends e acc masks offer ready =
    let all : ℕ → List ℕ = with_next true net words ends masks offer ready in
    offers-after true net words ends acc (λ b. all (report net b)) (orders net acc) masks offer ready (λ b hb q. prefix_refl (all (report net b)))
offers_next false net words ends e acc masks offer ready = clash e refl

-- For every list of steps, and choices that begin with those that it makes, ONE list of firings puts, on every channel, the words delivered there at the beginning.
guaranteed_by : (ok : Bool) (net : Net) (words ends : List ℕ) → IsAccepted net → (masks : List (ℕ × ℕ)) (chosen : ℕ → List ℕ) → Begun ok net words ends masks chosen
    → (F : List ℕ) × Inside net F × ((c : ℕ) → c < net.channels → IsPrefix (delivered ok net words ends masks c) (put_by net words ends chosen F c))
guaranteed_by true net words ends acc masks chosen h =
    let f = followed net words ends acc masks chosen h in
    let D : ℕ → List ℕ = delivered true net words ends masks in
    (f.0, f.1.inside, λ c hc. prefix_trans (D c) _ (put_by net words ends chosen f.0 c) (prefix_more (D c) (waits true net words ends masks c)) (f.1.ever c hc))
guaranteed_by false net words ends acc masks chosen h = (
  [],
  λ b m. elim m [ ],
  λ c hc.
      let start-puts : List ℕ = put_by net words ends chosen [] c in
      (start-puts, ap (λ (l : List ℕ). l ++ start-puts) (none-delivered net (over words ends masks) _ c (omega (arith, channels-high net acc.0.fields)))),
)

pub guaranteed_merges : GuaranteedMerges
guaranteed_merges ok net words ends acc masks = guaranteed_by ok net words ends acc masks (choices ok net words ends masks) (made ok net words ends masks)

-- Without merges no choices are needed.
pub guaranteed : Guaranteed
guaranteed ok net words ends acc free masks = guaranteed_by ok net words ends acc masks (λ b. []) (λ b hb e. absurd (free b hb e))

-- Each block has done whole firings, and holds nothing of what they gave but a buffer's word.
pub only_buffers_hold : OnlyBuffersHold
only_buffers_hold true net words ends e acc masks b hb =
    let chosen : ℕ → List ℕ = choices true net words ends masks in
    let v : View = machine_of net words ends chosen in
    let f = followed net words ends acc masks chosen (made true net words ends masks) in
    whole v (machine_wired net words ends chosen acc.0.fields acc.0.joins) (delivered true net words ends masks) (regs_of (end_state true net words ends masks))
    (run v f.0 (start v)) f.1.simulates b hb
only_buffers_hold false net words ends e acc masks b hb = clash e refl

-- The machine reports only numbers of inputs, and the choices made begin what it reports.
pub choices_in_range : ChoicesInRange
choices_in_range true net words ends ok acc masks b hb e t i =
    let chosen : ℕ → List ℕ = choices true net words ends masks in
    let v : View = machine_of net words ends chosen in
    let f = followed net words ends acc masks chosen (made true net words ends masks) in
    let s : Queues = run v f.0 (start v) in
    let c : ℕ = report net b in
    let Reports : Kind → Type 0 = λ K. s.puts c ≡ got K (ins_of v s b) (s.fired b) 1 in
    let reports : Reports (merge (block_at net b).m (chosen b)) =
    subst (λ (K : Kind). 1 < n_out K → Reports K) (machine_merge net words ends chosen b e) ((f.1.simulates.sound b hb).made 1) (omega arith) in
    let here = subst (λ (l : List ℕ). Memᴰ t l) (choices_are net words ends acc true refl masks b hb e) i in
    report-below (block_at net b).m (chosen b) (ins_of v s b) (s.fired b) t
    (subst (λ (l : List ℕ). Memᴰ t l) reports (prefix_in _ (s.puts c) (f.1.ever c (report_in net words ends acc b hb e)) t here))
choices_in_range false net words ends ok acc masks b hb e t i = clash ok refl

-- ## Firings in any order

-- Of any two lists of firings one puts, on each channel, a beginning of what the other puts, whatever the choices.
pub comparable_choices : ChoicesComparable
comparable_choices net words ends fixed acc F G c h =
    view-comparable (machine_of net words ends fixed) (machine_wired net words ends fixed acc.0.fields acc.0.joins) F G c h

pub comparable : FiringsComparable
comparable net words ends = comparable_choices net words ends (λ b. [])

-- So two lists of steps whose choices begin one and the same lists never differ in a word.
steps_comparable : (ok : Bool) (net : Net) (words ends : List ℕ) → IsAccepted net → (masks others : List (ℕ × ℕ)) (chosen : ℕ → List ℕ)
    → Begun ok net words ends masks chosen → Begun ok net words ends others chosen
    → (c : ℕ) → c < net.channels → Comparable (delivered ok net words ends masks c) (delivered ok net words ends others c)
steps_comparable ok net words ends acc masks others chosen h k c hc =
    let v : View = machine_of net words ends chosen in
    let F = guaranteed_by ok net words ends acc masks chosen h in
    let G = guaranteed_by ok net words ends acc others chosen k in
    beginnings_comparable v (machine_wired net words ends chosen acc.0.fields acc.0.joins) F.0 G.0 (start v) c
    (delivered ok net words ends masks c) (delivered ok net words ends others c) (F.2 c hc) (G.2 c hc)

pub same_words : StepsComparable
same_words ok net words ends acc free masks others =
    steps_comparable ok net words ends acc masks others (λ b. []) (λ b hb e. absurd (free b hb e)) (λ b hb e. absurd (free b hb e))

-- Where the choices of two lists of steps are comparable, so is all that they deliver.
pub same_choices : ChoicesDecide
same_choices ok net words ends acc masks others h =
    let both : ℕ → List ℕ = λ b. longer (choices ok net words ends masks b) (choices ok net words ends others b) in
    steps_comparable ok net words ends acc masks others both
    (λ b hb e. (begins_longer (choices ok net words ends masks b) (choices ok net words ends others b) (h b hb e)).0)
    (λ b hb e. (begins_longer (choices ok net words ends masks b) (choices ok net words ends others b) (h b hb e)).1)

-- Without merges the machine is the same whatever the choices.
pub choices_unread : ChoicesUnread
choices_unread net words ends free fixed = unread net words ends fixed free

-- A buffer's words given out, followed by the word it holds, equal its first word, if any, followed by the words it took in.
pub buffer_law : BuffersKeep
buffer_law true net e acc b hb i steps = buffers-from-fresh true net acc b hb i steps
buffer_law false net e acc b hb i steps = clash e refl
