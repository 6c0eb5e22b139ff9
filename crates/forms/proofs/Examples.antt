-- Forms of document 01, worked over the definitions: nothing and the byte 10 (hexadecimal) alone earn 1, the byte 20 earns 2, and the 18 bytes of
-- "Trial runs" load as the net of the program netrun, a source, a data buffer, add 5 and a sink, and are that net's form. That net and that form meet what the
-- round trips ask for.
-- Assumes nothing.
use mathlib.Core.Path.{◌≡◌, refl}
use mathlib.Core.Bool.{Bool, true, ◌&&◌}
use mathlib.Core.List.{List, [], ◌∷◌, ◌++◌}
use Prim.Native.Nat.{ℕ, zero, suc, ◌≤◌}
use native.Mathlib.Omega.{arith}
use lib.Dec.{ltb}
use lib.ListN.{length, take, drop, replicate}
use borrow.Author.Tests.{ltb-true}
use Rattle.blocks.specs.Ports.{ports_of}
use Rattle.blocks.proofs.Folds.{and_1, and_2}
use Rattle.nets.specs.Verdict.{Accepted}
use Rattle.nets.proofs.Trials.{block, line, line_accepted}
use Rattle.stored.specs.Form.{port_count, padded, zero_net, and_then, check, take_field, take_tested, between, take_many, take_value, take_rest, take_valued, take_block, take_blocks, take_counts, take_net, blank, blank_end, loaded, finish, parse, put_field, put_many, put_value, put_valued, put_block, put_net, encode, bytes_of, pack, form_of}
use Rattle.forms.specs.Calls.{Loaded, refusal_of, count_of, Wrote}
use Rattle.stored.specs.Sizes.{All, AreBytes, SizedBlock, Sized}
use Rattle.std.proofs.Common.{Result}
use Rattle.blocks.specs.declared.Refusal.{Refusal}
use Rattle.forms.proofs.Theorems.{loads-written, writes_loaded}

pub nothing : Loaded [] (record { refusal = 1; net = zero_net })
unfolding parse finish take_net take_tested take_field check and_then between
nothing = refl

pub edition_alone : Loaded (0x10 ∷ []) (record { refusal = 1; net = zero_net })
unfolding parse finish take_net take_tested take_field check and_then between
edition_alone = refl

pub other_edition : Loaded (0x20 ∷ []) (record { refusal = 2; net = zero_net })
unfolding parse finish take_net take_tested take_field check and_then between
other_edition = refl

abbrev pub bytes : List ℕ
bytes =
    0x10 ∷ 0x00 ∷ 0x04 ∷ 0x03 ∷ 0x00 ∷ 0x01 ∷ 0x00 ∷ 0x00 ∷ 0x09 ∷ 0x80 ∷ 0x00 ∷ 0x00 ∷ 0x00 ∷ 0x28 ∷ 0x10 ∷ 0x42 ∷ 0x00 ∷ 0x80 ∷ []

line_parsed : parse bytes ≡ loaded line
unfolding parse finish blank_end blank take_net take_counts take_blocks take_block take_valued take_rest take_value take_many take_tested take_field check and_then between port_count ports_of padded
line_parsed = refl

pub line_loads : Loaded bytes (record { refusal = 0; net = line })
line_loads = rw line_parsed (Accepted, line_accepted, refl)

pub line_written : form_of line ≡ bytes
unfolding pack encode bytes_of put_net put_block put_valued put_value put_many put_field port_count ports_of padded
line_written = refl

-- ## The round trips, over this net and this form

pub all_same : {A : Type 0} (P : A → Type 0) (a : A) → P a → (n : ℕ) → All P (replicate n a)
all_same P a p zero = tt
all_same P a p (suc n) = (p, all_same P a p n)

plain : (kind a b : ℕ) → SizedBlock (block kind a b)
plain kind a b = record { value = omega arith; ports = refl }

pub line_sized : Sized line
line_sized =
    record {
      blocks = refl;
      each = (plain 0 0 0, (plain 8 0 1, (record { value = omega arith; ports = refl }, (plain 1 2 0, all_same SizedBlock (block 0 0 0) (plain 0 0 0) 60))));
    }

abbrev below : List ℕ → Bool
below [] = true
below (b ∷ f) = ltb b 256 && below f

are_bytes : (f : List ℕ) → below f ≡ true → AreBytes f
are_bytes [] e = tt
are_bytes (b ∷ f) e = (ltb-true b 256 (and_1 (ltb b 256) (below f) e), are_bytes f (and_2 (ltb b 256) (below f) e))

pub line_bytes : AreBytes bytes
line_bytes = are_bytes bytes refl

-- writing the net and loading what was written
pub line_back : (buf : List ℕ) → 18 ≤ length buf → (r : Result ℕ Refusal) (after : List ℕ) → Wrote line buf r after
    → (refusal_of r ≡ 0) × Loaded (take (count_of r) after) (record { refusal = 0; net = line })
line_back buf room = loads-written line line_sized line_accepted buf (rw line_written room)

-- loading the form and writing its net
pub bytes_back : (buf : List ℕ) → 18 ≤ length buf → (r : Result ℕ Refusal) (after : List ℕ) → Wrote line buf r after
    → (refusal_of r ≡ 0) × (count_of r ≡ 18) × (after ≡ bytes ++ drop 18 buf)
bytes_back buf room = writes_loaded bytes line_bytes (record { refusal = 0; net = line }) line_loads refl buf room
