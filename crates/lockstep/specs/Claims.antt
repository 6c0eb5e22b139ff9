-- What is claimed of the words of placements (request 3), over the queue machine and `delivered`; proofs/Theorems.antt proves both. Of the calls `fresh` and `step` it is claimed in `claims`.
-- Assumes nothing.
use Rattle.std.specs.Prelude.{ℕ, ◌<◌, ◌≡◌, Bool, List, length}
use Rattle.nets.specs.Verdict.{Joined}
use Rattle.blocks.specs.declared.Net.{Net}
use Rattle.queue.specs.Machine.{put_by}
use Rattle.queue.specs.Delivered.{delivered}
use Rattle.queue.specs.Claims.{IsAccepted, MergeFree, Comparable}
use Rattle.placed.specs.Placed.{placed}
use Rattle.placed.specs.Claims.{Fitting}

-- Whatever firings of the placed net put on the old channels, some firings of the base net put: the same words on every old channel, with the same choices for merges, and
-- whether or not the nets have loops that lack buffers.
abbrev pub FiringsFollowed : Type 0
FiringsFollowed =
    (net : Net) (codes : List ℕ) → Joined net → Fitting net codes → (words ends : List ℕ) (choices : ℕ → List ℕ) (F : List ℕ)
    → (G : List ℕ) × ((c : ℕ) → c < net.channels → put_by (placed net codes) words ends choices F c ≡ put_by net words ends choices G c)

-- "Without merges, two placements that load, each stepped as in demand 3 over the same streams, deliver on each old channel lists of which one begins the other; show this for all
-- codes together": the base net passes all checks but those for its loops, and there is a code for each channel, of any number of channels.
abbrev pub PlacementsComparable : Type 0
PlacementsComparable =
    (net : Net) (codes others : List ℕ) → Joined net → MergeFree net → length codes ≡ net.channels → length others ≡ net.channels
    → IsAccepted (placed net codes) → IsAccepted (placed net others)
    → (ok ok' : Bool) (words ends : List ℕ) (masks masks' : List (ℕ × ℕ)) (c : ℕ) → c < net.channels
    → Comparable (delivered ok (placed net codes) words ends masks c) (delivered ok' (placed net others) words ends masks' c)
