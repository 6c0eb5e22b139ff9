-- Buffers one after another: firings of a whole placement are followed, one buffer after another, down to the base net.
-- Assumes nothing.
use Prim.Native.Nat.{ℕ, ◌≤◌, ◌<◌}
use mathlib.Core.Path.{◌≡◌, refl, ◌∙◌}
use mathlib.Core.Logic.{◌≢◌, ⊎_elim}
use mathlib.Core.List.{List}
use native.Mathlib.Omega.{arith}
use Rattle.nets.specs.Verdict.{Joined}
use Rattle.blocks.specs.declared.Net.{Net}
use Rattle.queue.specs.Machine.{machine_of, put_by}
use Rattle.queue.specs.Claims.{MergeFree}
use Rattle.queue.proofs.Apart.{last_or}
use Rattle.queue.proofs.Machines.{machine_wired}
use Rattle.placed.specs.Placed.{split, placed}
use Rattle.placed.specs.Claims.{Fitting}
use Rattle.placed.proofs.Moved.{by_plain}
use Rattle.placed.proofs.Splitting.{block_new, block_old}
use Rattle.placed.proofs.Placing.{Room, still_joined, Grows, all_codes}
use Rattle.lockstep.proofs.Lockstep.{same_puts}
use Rattle.lockstep.proofs.Views.{splits}

-- whatever firings of new put on the channels of net, some firings of net put, with the same choices
abbrev Follows : Net → Net → Type 0
Follows net new =
    (words ends : List ℕ) (choices : ℕ → List ℕ) (F : List ℕ)
    → (G : List ℕ) × ((c : ℕ) → c < net.channels → put_by new words ends choices F c ≡ put_by net words ends choices G c)

-- new is net with buffers on its channels
pub record Extends (net new : Net) : Type 0 where
  pub wider : net.channels ≤ new.channels
  pub free : MergeFree net → MergeFree new
  pub follow : Follows net new

itself : (net : Net) → Joined net → Extends net net
itself net j = record { wider = omega arith; free = λ f. f; follow = λ words ends choices F. (F, λ c h. refl) }

in_turn_lem : (a b d : Net) → Extends a b → Extends b d → Extends a d
in_turn_lem a b d p q =
    record {
      wider = omega (arith, p.wider, q.wider);
      free = λ f. q.free (p.free f);
      follow =
          λ words ends choices F.
          let G = q.follow words ends choices F in
          let E = p.follow words ends choices G.0 in
          (E.0, λ c h. G.1 c (omega (arith, h, p.wider)) ∙ E.1 c h);
    }

module _ (net : Net) (c kind : ℕ) (r : Room net c kind) where
  still_free : MergeFree net → MergeFree (split net c kind)
  still_free f b hb =
      ⊎_elim
      (λ (z : b ≡ net.size).
      rw (z, block_new net c kind r.blocks_fit) (by_plain (λ k. k ≢ 7) (λ e. omega arith) (λ e. omega arith) kind r.plain))
      (λ (h : b < net.size). rw (block_old net c kind r.blocks_fit b h) (f b h))
      (last_or b net.size (omega (arith, hb)))

  one_buffer : Extends net (split net c kind)
  one_buffer =
      let old : Joined net = r.joined in
      let new : Joined (split net c kind) = still_joined net c kind r in
      record {
        wider = omega arith;
        free = still_free;
        follow =
            λ words ends choices F.
            same_puts (machine_of net words ends choices) (machine_of (split net c kind) words ends choices) c (splits net c kind r words ends choices)
            (machine_wired net words ends choices old.fields old.joins) (machine_wired (split net c kind) words ends choices new.fields new.joins) F;
      }

grows : Grows Extends
grows = record { itself = itself; in_turn_lem = in_turn_lem; one_buffer = one_buffer }

pub extends : (net : Net) (codes : List ℕ) → Joined net → Fitting net codes → Extends net (placed net codes)
extends net codes j fit = (all_codes Extends grows net 0 codes j (omega arith) fit.blocks_fit fit.channels_fit).1
