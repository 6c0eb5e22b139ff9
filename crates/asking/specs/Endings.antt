-- How a chain of waiting channels ends (change request 9, "The chain ends at"): the endings with their numbers, which of them a block of a kind gives, and what each of
-- them says of the block that it names.
-- Assumes nothing.
use Rattle.std.specs.Prelude.{ℕ, ◌<◌, ◌≡◌, Bool, true, false, cond, ◌&&◌, List, ◌⊎◌, length, Some, None}
use Rattle.std.specs.Prelude.{Option as Answer}
use Rattle.std.proofs.Math.Option.{Option}
use Rattle.blocks.specs.Folds.{bit}
use Rattle.blocks.specs.Kinds.{Kind, source, sink, operator, constant, fork, mux, demux, merge, buffer, control, unused}
use Rattle.blocks.specs.Words.{reach}
use Rattle.blocks.specs.Signals.{named, full}
use Rattle.blocks.specs.Equations.{went, offers, fork_ready, won, all_done}
use Rattle.blocks.specs.Asking.{needs, looks}
use Rattle.blocks.specs.declared.Sig.{Sig}
use Rattle.blocks.specs.declared.Reg.{Reg}
use Rattle.asking.specs.declared.Ending.{Ending}
use Rattle.asking.specs.declared.Ending.TheVariants.{IdleSource, UnreadySink, EmptyBuffer, FullControl, Circle, NoRule}

-- "an idle source, an unready sink, an empty data buffer asked for a word, a full control buffer asked for readiness": the ending at block b that is asked for a word
-- (word true) or for readiness (word false). It is asked because of a channel that lacks just that, so that the source is idle, the sink unready, the data buffer empty
-- and the control buffer full (`ends_so`, proofs/Cases.antt).
abbrev pub ending_of : Kind → Bool → ℕ → Answer Ending
ending_of (source xs) word b = Some (IdleSource b)
ending_of sink word b = Some (UnreadySink b)
ending_of (operator o) word b = None
ending_of (constant o c) word b = None
ending_of (fork m) word b = None
ending_of (mux m) word b = None
ending_of (demux m) word b = None
ending_of (merge m cs) word b = None
ending_of (buffer o) word b = cond word (Some (EmptyBuffer b)) None
ending_of control word b = cond word None (Some (FullControl b))
ending_of unused word b = None

-- ## Numbers of a chain's ending: 0 for an empty chain, which has none, then in the request's order; and the block that an ending names, or for a circle the channel met again

abbrev pub ending_number : Answer Ending → ℕ
ending_number None = 0
ending_number (Some (IdleSource b)) = 1
ending_number (Some (UnreadySink b)) = 2
ending_number (Some (EmptyBuffer b)) = 3
ending_number (Some (FullControl b)) = 4
ending_number (Some (Circle c)) = 5
ending_number (Some (NoRule b)) = 6

abbrev pub ending_at : Answer Ending → ℕ
ending_at None = 0
ending_at (Some (IdleSource b)) = b
ending_at (Some (UnreadySink b)) = b
ending_at (Some (EmptyBuffer b)) = b
ending_at (Some (FullControl b)) = b
ending_at (Some (Circle c)) = c
ending_at (Some (NoRule b)) = b

-- ## What an ending says of its block
-- r: the block's registers. x: what its inputs show. v, y: whether its outputs are valid and ready. word, p: it was asked for the word of its output p (word true), or for
-- readiness at its input p.

-- a merge that takes its winner's word in this cycle
abbrev pub MergeTakes : ℕ → Reg → (ℕ → Sig) → (ℕ → Bool) → (ℕ → Bool) → Type 0
MergeTakes m r x v y = ((won m r x).valid && all_done 2 r.marks (went v y)) ≡ true

-- a merge that has recorded no winner, and none of whose inputs has a word
abbrev pub NoWinner : ℕ → Reg → (ℕ → Sig) → Type 0
NoWinner m r x = (r.word ≡ 0) × ((i : ℕ) → i < m → (x i).valid ≡ false)

-- "If no rule names a further channel": the kinds at which a chain can end so, and when.
-- A fork that takes its input in this cycle, asked for a copy that has gone before. A mux that delivers, asked for readiness at an input that is not selected. A demux
-- that delivers, asked for the word of an output that is not selected. A merge without a winner, asked for a word; or one that takes its winner's word in this cycle, asked
-- for the word of a side that has gone before, or for readiness at an input that did not win.
abbrev pub NoRuleAt : Kind → Reg → (ℕ → Sig) → (ℕ → Bool) → (ℕ → Bool) → Bool → ℕ → Type 0
NoRuleAt (source xs) r x v y word p = ⊥
NoRuleAt sink r x v y word p = ⊥
NoRuleAt (operator o) r x v y word p = ⊥
NoRuleAt (constant o c) r x v y word p = ⊥
NoRuleAt (fork m) r x v y word p = (word ≡ true) × (bit p r.marks ≡ true) × (fork_ready m r.marks (x 0).valid (went v y) ≡ true)
NoRuleAt (mux m) r x v y word p = (word ≡ false) × (needs (mux m) r x p ≡ false) × (went v y 0 ≡ true)
NoRuleAt (demux m) r x v y word p = (word ≡ true) × (looks (demux m) x p ≡ false) × (named (reach m (x 0).word) (went v y) ≡ true)
NoRuleAt (merge m cs) r x v y true p = NoWinner m r x ⊎ ((bit p r.marks ≡ true) × MergeTakes m r x v y)
NoRuleAt (merge m cs) r x v y false p = (needs (merge m cs) r x p ≡ false) × MergeTakes m r x v y
NoRuleAt (buffer o) r x v y word p = ⊥
NoRuleAt control r x v y word p = ⊥
NoRuleAt unused r x v y word p = ⊥

-- an idle source, an unready sink, an empty data buffer, a full control buffer, or one of the above; mask: a source's offer bit or a sink's ready bit
abbrev pub EndsAt : Kind → Bool → Reg → (ℕ → Sig) → (ℕ → Bool) → (ℕ → Bool) → Bool → ℕ → Ending → Type 0
EndsAt K mask r x v y word p (IdleSource b) = (xs : List ℕ) × (K ≡ source xs) × (offers (length xs) r mask ≡ false)
EndsAt K mask r x v y word p (UnreadySink b) = (K ≡ sink) × (mask ≡ false)
EndsAt K mask r x v y word p (EmptyBuffer b) = (o : Option ℕ) × (K ≡ buffer o) × (word ≡ true) × (full r ≡ false)
EndsAt K mask r x v y word p (FullControl b) = (K ≡ control) × (word ≡ false) × (full r ≡ true)
EndsAt K mask r x v y word p (Circle c) = ⊥
EndsAt K mask r x v y word p (NoRule b) = NoRuleAt K r x v y word p
