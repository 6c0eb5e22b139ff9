-- `sim::step::work` meets its contract: the signals, what moved and the next registers, each by the net.
-- Assumes nothing.
use Rattle.std.proofs.Common.{◌≡◌, ap, ◌∙◌, ℕ, ◌+◌, List, get_or}
use Rattle.blocks.specs.States.{reg_in}
use Rattle.blocks.specs.declared.State.{State}
use Rattle.nets.proofs.Nets.{channels-high}
use Rattle.nets.proofs.Decided.{accepted_true}
use Rattle.rows.specs.Ends.{read, stream_at, mask_at}
use Rattle.sim.proofs.Answers.{passed}
use Rattle.sim.proofs.Results.{marks_are, words_are, after_is}
use Rattle.sim.proofs.step.work.Goals as goal

-- the count is raised, and no register changes
same_regs : (s t : State) → (t.words ≡ s.words) × (t.marks ≡ s.marks) → (b : ℕ) → reg_in t b ≡ reg_in s b
same_regs s t e b =
    let w = ap (λ (l : List ℕ). get_or l b 0) e.0 in
    let m = ap (λ (l : List ℕ). get_or l b 0) e.1 in
    λ i. record { word = w i; marks = m i }

pub moves_of-requires : goal.moves_of-requires
moves_of-requires c = channels-high _ (accepted_true _ c.requires.net_value).0.fields

pub returns : goal.returns
returns c =
    let net = c.args.laid.now.net.now in
    let acc = accepted_true net c.requires.net_value in
    let ok = passed _ _ _ _ c.requires.given.tested in
    let w = c.wires.ensures.worked in
    let m = c.moves_of.ensures in
    let next = c.registers.ensures in
    let up = c.count_cycle.ensures in
    let words = read c.args.streams.words in
    let ends = read c.args.streams.ends in
    let inside = next.by_index (stream_at net words ends) (mask_at net c.args.offer c.args.ready) in
    let same = same_regs c.registers.new.state c.count_cycle.new.state up.same in
    let s =
    after_is net acc _ ok.0 _ _ ok.1 _ _ _ _ w c.count_cycle.new.state up.long.0 up.long.1 (up.count ∙ ap (λ (n : ℕ). n + 1) next.kept.same_count)
    (λ b l. same b ∙ inside b l) (λ b l. same b ∙ next.by_index_2 b l) in
    let d = marks_are net acc _ ok.0 _ _ ok.1 _ _ _ _ w _ _ m in
    let x = words_are net acc _ ok.0 _ _ ok.1 _ _ _ _ w _ _ m in
    λ i. record { refusal = 0; state = s i; delivered = d i; words = x i }
