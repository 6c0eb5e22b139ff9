-- What the public calls `fresh_bays`, `step_bay` (requests 5 and 8) and `next` (request 6) answer: a bay's cycle is a step of its own state, `step_of` of crate sim; the bay's
-- number and the turn are tested around the refusal of that step, one line each. `next` is the step of the bay whose turn it is.
-- Assumes nothing.
use Rattle.std.specs.Prelude.{ℕ, ◌+◌, ◌*◌, ◌%◌, Bool, cond, List, [], leb, eqb, get_or, set, replicate}
use Rattle.std.proofs.Math.Option.{Option, none, some}
use Rattle.blocks.specs.Folds.{lowest, bit}
use Rattle.blocks.specs.declared.Net.{Net}
use Rattle.blocks.specs.declared.State.{State}
use Rattle.cycles.specs.declared.Stepped.{Stepped}
use Rattle.sim.specs.Calls.{fresh_of, step_of}
use Rattle.bays.specs.declared.Bays.{Bays}
use Rattle.bays.specs.declared.FreshBays.{FreshBays}
use Rattle.bays.specs.declared.BayStepped.{BayStepped}
use Rattle.bays.specs.declared.Turned.{Turned}

-- ## The record

-- "Each bay has its own state": that of bay k, of the four
abbrev pub state_at : Bays → ℕ → State
state_at r k = get_or r.states k (record { count = 0; words = []; marks = [] })

-- four fresh states, and "from fresh it starts at bay 0"; refusal 12 gives a zero record
unfoldable pub fresh_bays : Net → FreshBays
fresh_bays net = record { refusal = (fresh_of net).refusal; bays = record { states = replicate 4 (fresh_of net).state; turn = 0 } }

-- ## A bay's step

-- "Refusals 13 and 16 look at the calling bay's state alone, and 13 at the turn": by the turn, and by what a step of the bay's own state earns. The net's 12 comes first, then
-- 13 for a turn beyond the four bays, then the step's own 13, 14 and 16.
unfoldable pub refusal_bay : ℕ → ℕ → ℕ
refusal_bay turn own =
    cond (eqb own 12) 12
    (cond (leb 4 turn) 13 own)

-- the record handed in, nothing delivered
abbrev pub refused_bay : ℕ → Bays → BayStepped
refused_bay n r = record { refusal = n; bays = r; delivered = replicate 128 0; words = replicate 128 0 }

-- bay k's state moves, with its count; "steps outside this call don't move the turn"
abbrev pub served_bay : Bays → ℕ → Stepped → BayStepped
served_bay r k t =
    record {
      refusal = 0;
      bays = record { states = set r.states k t.state; turn = r.turn };
      delivered = t.delivered;
      words = t.words;
    }

-- the step of bay k, where t is the step of its own state
abbrev pub bay_by : Bays → ℕ → Stepped → BayStepped
bay_by r k t = cond (eqb (refusal_bay r.turn t.refusal) 0) (served_bay r k t) (refused_bay (refusal_bay r.turn t.refusal) r)

-- "21 when the bay number is 4 or more, checked before 12"
unfoldable pub step_bay : Net → Bays → ℕ → List ℕ → List ℕ → ℕ → ℕ → BayStepped
step_bay net r k words ends offer ready = cond (leb 4 k) (refused_bay 21 r) (bay_by r k (step_of net (state_at r k) words ends offer ready))

-- ## Whose cycle is next

-- The stored turn is the bay that is asked first: the one after "the bay last served".

-- the bay that is asked after i others, "going round"
abbrev pub asked : ℕ → ℕ → ℕ
asked turn i = (turn + i) % 4

-- whether it wants a cycle
abbrev pub wants_at : ℕ → ℕ → ℕ → Bool
wants_at turn want i = bit (asked turn i) want

-- the bay at a place among those asked; 4 for no place
abbrev pub bay_no : ℕ → Option ℕ → ℕ
bay_no turn none = 4
bay_no turn (some i) = asked turn i

-- the first of the four that wants one; 4 where none does
unfoldable pub first_wanting : ℕ → ℕ → ℕ
first_wanting turn want = bay_no turn (lowest (wants_at turn want) 4)

-- "names no bay": the record handed in, nothing delivered
abbrev pub no_bay : ℕ → Bays → Turned
no_bay n r = record { bay = 4; step = refused_bay n r }

abbrev pub with_turn : ℕ → Bays → Bays
with_turn turn r = record { states = r.states; turn = turn }

-- bay k was served with answer a, "a refused step counts as service": the bay after it is asked first from now on
abbrev pub turned_to : ℕ → BayStepped → Turned
turned_to k a = record { bay = k; step = record { refusal = a.refusal; bays = with_turn ((k + 1) % 4) a.bays; delivered = a.delivered; words = a.words } }

-- bay k's masks among "every bay's masks": its offer, and its ready mask after it
abbrev pub masks_at : List ℕ → ℕ → ℕ × ℕ
masks_at masks k = (get_or masks (k * 2) 0, get_or masks (k * 2 + 1) 0)

-- the step of bay k with its masks, and the turn after it
abbrev pub serve_next : Net → Bays → List ℕ → List ℕ → List ℕ → ℕ → Turned
serve_next net r words ends masks k = turned_to k (step_bay net r k words ends (masks_at masks k).0 (masks_at masks k).1)

-- "An empty mask, tested first", where "bits beyond the four bays are ignored"; "a stored turn beyond the four bays, tested next"; then the bay's step
unfoldable pub next_bay : Net → Bays → List ℕ → List ℕ → List ℕ → ℕ → Turned
next_bay net r words ends masks want =
    cond (eqb (want % 16) 0) (no_bay 0 r)
    (cond (leb 4 r.turn) (no_bay 13 r)
    (serve_next net r words ends masks (first_wanting r.turn want)))
