-- Takers and putters agree. Each taker and its putter are shown to be one codec: what the putter put the taker takes, and what the taker took the
-- putter puts back. A codec of a larger value follows from those of its parts, up to a net; padding and bytes then give `load_written` and `write_loaded`.
-- Assumes nothing.
use Prim.Native.Nat.{ℕ, zero, suc, ◌+◌, ◌-◌, ◌*◌, ◌/◌, ◌^◌, ◌<◌, ◌≤◌}
use native.Mathlib.Omega.{arith}
use native.Mathlib.Decide.{dec_lt}
use mathlib.Core.Path.{◌≡◌, refl, ap, ap₂, sym, ◌∙◌, subst, subst₂}
use mathlib.Core.List.{List, [], ◌∷◌, ◌++◌, append_assoc}
use mathlib.Core.Bool.{Bool, true, false, cond, ◌&&◌}
use lib.ListN.{length, take, drop, replicate, length-append, length-drop, length-replicate, take-append-drop}
use lib.Seq.{take_at, drop_at, length-take-le}
use lib.Dec.{leb, ltb}
use borrow.Author.Tests.{le-leb, lt-leb, leb-true, ltb-true, lt-ltb}
use Rattle.reader.specs.Bits.{bits, number, bits_of}
use Rattle.reader.proofs.Bits.{length-bits, length_bits_of, bits-number, number-bits, number-take_lt}
use Rattle.blocks.specs.Ports.{m_ok, has_value}
use Rattle.blocks.proofs.Folds.{clash, and_1, and_2}
use Rattle.blocks.proofs.Counts.{m_most, ten_ports}
use Rattle.blocks.specs.declared.Block.{Block}
use Rattle.blocks.specs.declared.Net.{Net}
use Rattle.stored.specs.Form.{port_count, padded, zero_block, Taken, got, refused, and_then, check, take_field, take_tested, between, take_many, take_port, take_value, take_rest, take_valued, take_block, take_blocks, take_counts, take_net, blank, blank_end, loaded, denied, finish, parse, put_field, put_many, put_value, put_valued, put_block, put_net, encode, bytes_of, pack, form_of}
use Rattle.stored.specs.Sizes.{All, AreBytes}

-- ## What a net's fields are where its form is

-- a value of 32 bits where the kind has one, else 0
abbrev pub OkValue : Bool → ℕ → Type 0
OkValue has v = cond has (v < 2 ^ 32) (v ≡ 0)

-- a block's fields are in their ranges, and its unused ports are 0
pub record OkBlock (c : ℕ) (b : Block) : Type 0 where
  pub m : m_ok b.kind b.m ≡ true
  pub value : OkValue (has_value b.kind) b.value
  pub ports : All (λ p. p < c) (take (port_count b.kind b.m) b.ports)
  pub padding : b.ports ≡ padded 0 10 (take (port_count b.kind b.m) b.ports)

-- a net's fields are in their ranges, and its unused blocks are zero
pub record OkNet (n : Net) : Type 0 where
  pub blocks_least : 2 ≤ n.size
  pub blocks_most : n.size ≤ 64
  pub channels_least : 1 ≤ n.channels
  pub channels_most : n.channels ≤ 128
  pub blocks : All (OkBlock n.channels) (take n.size n.blocks)
  pub padding : n.blocks ≡ padded zero_block 64 (take n.size n.blocks)

-- an m that a kind takes is small, and so is the kind
pub kind-small : (k m : ℕ) → m_ok k m ≡ true → k ≤ 10
kind-small k m t = elim (dec_lt 10 k) [ yes h ↦ clash t (far h) | no h ↦ omega arith ]
  where
    far : 10 < k → m_ok k m ≡ false
    far h = rw (lt-leb k 1 (omega arith), lt-leb k 3 (omega arith), lt-leb k 7 (omega arith), lt-leb k 10 h)

pub m_small : (k m : ℕ) → m_ok k m ≡ true → m < 16
m_small k m t = omega (arith, m_most m k t)

-- no block has over 10 ports
pub port_count_le : (kind m : ℕ) → port_count kind m ≤ 10
unfolding port_count
port_count_le kind m = ten_ports kind m

-- ## Codecs

-- the law of a taker and its putter, for the values that are ok
pub record Codec {A : Type 0} (ok : A → Type 0) (put : A → List Bool → List Bool) (taken : List Bool → Taken A) : Type 0 where
  pub there : (a : A) (r : List Bool) → ok a → taken (put a r) ≡ got a r
  pub back : (l : List Bool) (a : A) (r : List Bool) → taken l ≡ got a r → (put a r ≡ l) × ok a
  -- a value's bits stand in front of whatever follows
  pub front : (a : A) (r s : List Bool) → put a r ++ s ≡ put a (r ++ s)

refused-not : {A : Type 0} {e : ℕ} {a : A} {r : List Bool} → refused e ≡ got a r → ⊥
refused-not h = let z : ◌≡◌ {A = ℕ} 0 1 = cc in omega arith

-- one taker after another took a value: so did each. Handed on as variables, since a chain of `let`s would be written out in each goal.
pub by_both : {A B G : Type 0} (t : Taken A) (k : A → List Bool → Taken B) (b : B) (r : List Bool) → and_then t k ≡ got b r
    → ((a : A) (s : List Bool) → t ≡ got a s → k a s ≡ got b r → G) → G
unfolding and_then
by_both (got a s) k b r h go = go a s refl h
by_both (refused e) k b r h go = absurd (refused-not h)

pub checked : {A : Type 0} (t : Bool) (e : ℕ) (x : Taken A) (a : A) (r : List Bool) → check t e x ≡ got a r → (t ≡ true) × (x ≡ got a r)
unfolding check
checked true e x a r h = (refl, h)
checked false e x a r h = absurd (refused-not h)

-- what holds of a value and the bits after it, where two answers are equal
along : {A : Type 0} (P : A → List Bool → Type 0) {a b : A} {r s : List Bool} → got a r ≡ got b s → P a r → P b s
along P {a} {b} {r} {s} h p =
    let e : a ≡ b = cc in
    let f : r ≡ s = cc in
    subst₂ P e f p

pub then_there : {A B : Type 0} {t : Taken A} (k : A → List Bool → Taken B) {a : A} {s : List Bool} {u : Taken B} → t ≡ got a s → k a s ≡ u → and_then t k ≡ u
unfolding and_then
then_there k e f = ap (λ t. and_then t k) e ∙ f

pub then_refused : {A B : Type 0} {t : Taken A} (k : A → List Bool → Taken B) {e : ℕ} → t ≡ refused e → and_then t k ≡ refused e
unfolding and_then
then_refused k h = ap (λ t. and_then t k) h

pub check_there : {A : Type 0} {t : Bool} (e : ℕ) (x : Taken A) → t ≡ true → check t e x ≡ x
unfolding check
check_there e x h = ap (λ t. check t e x) h

-- a field of w bits
field_there : (w v : ℕ) (r : List Bool) → v < 2 ^ w → take_field w (put_field w v r) ≡ got v r
unfolding take_field put_field
field_there w v r h =
    let long : w ≤ length (bits w v ++ r) = simp (length-append, length-bits) (omega arith) in
    check_there _ _ (le-leb w _ long)
    ∙ ap₂ got (ap number (take_at (bits w v) r w (length-bits w v)) ∙ number-bits w v h) (drop_at (bits w v) r w (length-bits w v))

bits-take : (w : ℕ) (l : List Bool) → w ≤ length l → bits w (number (take w l)) ≡ take w l
bits-take w l long = subst (λ (n : ℕ). bits n (number (take w l)) ≡ take w l) (length-take-le w l long) (bits-number (take w l))

pub field_back : (w : ℕ) (l : List Bool) (v : ℕ) (r : List Bool) → take_field w l ≡ got v r → (put_field w v r ≡ l) × (v < 2 ^ w)
unfolding take_field put_field
field_back w l v r h =
    let c = checked _ _ _ _ _ h in
    let long : w ≤ length l = leb-true w (length l) c.0 in
    along (λ (v : ℕ) (r : List Bool). (bits w v ++ r ≡ l) × (v < 2 ^ w)) c.1
    (rw (bits-take w l long) (take-append-drop w l), number-take_lt w l)

pub field_front : (w v : ℕ) (r s : List Bool) → put_field w v r ++ s ≡ put_field w v (r ++ s)
unfolding put_field
field_front w v r s = append_assoc (bits w v) r s

-- a field that meets a test
tested_there : (w : ℕ) (ok : ℕ → Bool) (e v : ℕ) (r : List Bool) → v < 2 ^ w → ok v ≡ true → take_tested w ok e (put_field w v r) ≡ got v r
unfolding take_tested
tested_there w ok e v r h t = then_there _ (field_there w v r h) (check_there _ _ t)

pub tested-back : (w : ℕ) (ok : ℕ → Bool) (e : ℕ) (l : List Bool) (v : ℕ) (r : List Bool) → take_tested w ok e l ≡ got v r
    → (put_field w v r ≡ l) × (v < 2 ^ w) × (ok v ≡ true)
unfolding take_tested
tested-back w ok e l v r h =
    by_both _ _ _ _ h λ a s first second.
    let c = checked _ _ _ _ _ second in
    let f = field_back w l a s first in
    along (λ (v : ℕ) (r : List Bool). (put_field w v r ≡ l) × (v < 2 ^ w) × (ok v ≡ true)) c.1 (f.0, f.1, c.0)

-- a port
pub port_codec : (c : ℕ) → c ≤ 128 → Codec (λ p. p < c) (put_field 7) (take_port c)
port_codec c h =
    record {
      there = λ p r o. tested_there 7 (λ p. ltb p c) 6 p r (omega arith) (lt-ltb p c o);
      back = λ l p r e. let b = tested-back 7 (λ p. ltb p c) 6 l p r e in (b.0, ltb-true p c b.2);
      front = field_front 7;
    }

-- many values of one codec
module _ {A : Type 0} {ok : A → Type 0} {put : A → List Bool → List Bool} {taken : List Bool → Taken A} (one : Codec ok put taken) where
  pub many_there : (n : ℕ) (xs : List A) (r : List Bool) → length xs ≡ n → All ok xs → take_many taken n (put_many put xs r) ≡ got xs r
  unfolding take_many put_many
  many_there zero [] r e o = refl
  many_there zero (a ∷ xs) r e o = absurd (omega arith)
  many_there (suc n) [] r e o = absurd (omega arith)
  many_there (suc n) (a ∷ xs) r e o =
      then_there _ (one.there a (put_many put xs r) o.0) (then_there _ (many_there n xs r (omega arith) o.1) refl)

  pub many_back : (n : ℕ) (l : List Bool) (xs : List A) (r : List Bool) → take_many taken n l ≡ got xs r
      → (put_many put xs r ≡ l) × (length xs ≡ n) × All ok xs
  unfolding take_many put_many
  many_back zero l xs r h = along (λ (xs : List A) (r : List Bool). (put_many put xs r ≡ l) × (length xs ≡ zero) × All ok xs) h (refl, refl, tt)
  many_back (suc n) l xs r h =
      by_both _ _ _ _ h λ a s first second.
      by_both _ _ _ _ second λ bs t third fourth.
      let f = one.back l a s first in
      let g = many_back n s bs t third in
      along (λ (xs : List A) (r : List Bool). (put_many put xs r ≡ l) × (length xs ≡ suc n) × All ok xs) fourth
      (ap (put a) g.0 ∙ f.0, ap suc g.1, (f.1, g.2))

  pub many_front : (xs : List A) (r s : List Bool) → put_many put xs r ++ s ≡ put_many put xs (r ++ s)
  unfolding put_many
  many_front [] r s = refl
  many_front (a ∷ xs) r s = one.front a (put_many put xs r) s ∙ ap (put a) (many_front xs r s)

-- a value
value_there : (t : Bool) (v : ℕ) (r : List Bool) → OkValue t v → take_value t (put_value t v r) ≡ got v r
unfolding take_value put_value
value_there true v r h = field_there 32 v r h
value_there false v r h = ap (λ n. got n r) (sym h)

value-back : (t : Bool) (l : List Bool) (v : ℕ) (r : List Bool) → take_value t l ≡ got v r → (put_value t v r ≡ l) × OkValue t v
unfolding take_value put_value
value-back true l v r h = field_back 32 l v r h
value-back false l v r h = along (λ (v : ℕ) (r : List Bool). (r ≡ l) × (v ≡ 0)) h (refl, refl)

pub value-front : (t : Bool) (v : ℕ) (r s : List Bool) → put_value t v r ++ s ≡ put_value t v (r ++ s)
unfolding put_value
value-front true v r s = field_front 32 v r s
value-front false v r s = refl

-- a padded list begins with what was padded
take-padded : {A : Type 0} (z : A) (n k : ℕ) (l : List A) → length l ≡ k → take k (padded z n l) ≡ l
unfolding padded
take-padded z n k l h = take_at l (replicate (n - length l) z) k h

pub length-padded : {A : Type 0} (z : A) (n : ℕ) (l : List A) → n ≤ length (padded z n l)
unfolding padded
length-padded z n l = simp (length-append, length-replicate) (omega arith)

pub both : (a b : Bool) → (a && b) ≡ true → (a ≡ true) × (b ≡ true)
both a b h = (and_1 a b h, and_2 a b h)

pub between_true : (low high n : ℕ) → low ≤ n → n ≤ high → between low high n ≡ true
unfolding between
between_true low high n a b = rw (le-leb low n a, le-leb n high b)

pub true_between : (low high n : ℕ) → between low high n ≡ true → (low ≤ n) × (n ≤ high)
unfolding between
true_between low high n h =
    let c = both (leb low n) (leb n high) h in
    (leb-true low n c.0, leb-true n high c.1)

-- the ports that a block has are as many as its kind and m say
length-ports : (c : ℕ) (b : Block) → OkBlock c b → length (take (port_count b.kind b.m) b.ports) ≡ port_count b.kind b.m
length-ports c b o =
    let n = port_count b.kind b.m in
    let long : 10 ≤ length b.ports = rw o.padding (length-padded 0 10 (take n b.ports)) in
    length-take-le n b.ports (omega (arith, port_count_le b.kind b.m))

-- a block
block_there : (c : ℕ) (b : Block) (r : List Bool) → c ≤ 128 → OkBlock c b → take_block c (put_block b r) ≡ got b r
unfolding take_block take_valued take_rest put_block put_valued
block_there c b r h o =
    then_there _ (tested_there 4 (between 0 10) 4 b.kind _ (omega (arith, kind-small b.kind b.m o.m)) (between_true 0 10 _ (omega arith) (kind-small b.kind b.m o.m)))
    (then_there _ (tested_there 4 (m_ok b.kind) 5 b.m _ (m_small b.kind b.m o.m) o.m)
    (then_there _ (value_there (has_value b.kind) b.value _ o.value)
    (then_there _ (many_there (port_codec c h) (port_count b.kind b.m) (take (port_count b.kind b.m) b.ports) r (length-ports c b o) o.ports)
    (ap (λ (ps : List ℕ). got (record { kind = b.kind; m = b.m; value = b.value; ports = ps }) r) (sym o.padding)))))

pub block_back : (c : ℕ) → c ≤ 128 → (l : List Bool) (b : Block) (r : List Bool) → take_block c l ≡ got b r → (put_block b r ≡ l) × OkBlock c b
unfolding take_block take_valued take_rest put_block put_valued
block_back c s l b r h =
    by_both _ _ _ _ h λ kind r₁ e₁ h₁.
    by_both _ _ _ _ h₁ λ m r₂ e₂ h₂.
    by_both _ _ _ _ h₂ λ value r₃ e₃ h₃.
    by_both _ _ _ _ h₃ λ ps r₄ e₄ h₄.
    let f₁ = tested-back 4 (between 0 10) 4 l kind r₁ e₁ in
    let f₂ = tested-back 4 (m_ok kind) 5 r₁ m r₂ e₂ in
    let f₃ = value-back (has_value kind) r₂ value r₃ e₃ in
    let f₄ = many_back (port_codec c s) (port_count kind m) r₃ ps r₄ e₄ in
    let all : take (port_count kind m) (padded 0 10 ps) ≡ ps = take-padded 0 10 (port_count kind m) ps f₄.1 in
    along (λ (b : Block) (r : List Bool). (put_block b r ≡ l) × OkBlock c b) h₄ (
      rw (all, f₄.0, f₃.0, f₂.0) f₁.0,
      record {
        m = f₂.2;
        value = f₃.1;
        ports = rw all f₄.2;
        padding = rw all refl;
      },
    )

pub block-front : (b : Block) (r s : List Bool) → put_block b r ++ s ≡ put_block b (r ++ s)
unfolding put_block put_valued
block-front b r s = simp (field_front, value-front, many_front (port_codec 0 (omega arith)))

pub block_codec : (c : ℕ) → c ≤ 128 → Codec (OkBlock c) put_block (take_block c)
block_codec c h = record { there = λ b r. block_there c b r h; back = block_back c h; front = block-front }

-- a net
only : (k n : ℕ) → between k k n ≡ true → n ≡ k
only k n h = let t = true_between k k n h in omega (arith, t.0, t.1)

pub length-blocks : (n : Net) → OkNet n → length (take n.size n.blocks) ≡ n.size
length-blocks n o =
    let k = n.size in
    let long : 64 ≤ length n.blocks = rw o.padding (length-padded zero_block 64 (take k n.blocks)) in
    length-take-le k n.blocks (omega (arith, o.blocks_most))

net_there : (n : Net) (r : List Bool) → OkNet n → take_net (put_net n r) ≡ got n r
unfolding take_net take_counts take_blocks put_net
net_there n r o =
    then_there _ (tested_there 4 (between 1 1) 2 1 _ (omega arith) (between_true 1 1 1 (omega arith) (omega arith)))
    (then_there _ (tested_there 12 (between 0 0) 2 0 _ (omega arith) (between_true 0 0 0 (omega arith) (omega arith)))
    (then_there _ (tested_there 8 (between 2 64) 3 n.size _ (omega (arith, o.blocks_most)) (between_true 2 64 _ o.blocks_least o.blocks_most))
    (then_there _ (tested_there 8 (between 1 128) 3 n.channels _ (omega (arith, o.channels_most)) (between_true 1 128 _ o.channels_least o.channels_most))
    (then_there _ (many_there (block_codec n.channels o.channels_most) n.size (take n.size n.blocks) r (length-blocks n o) o.blocks)
    (ap (λ (bs : List Block). got (record { size = n.size; channels = n.channels; blocks = bs }) r) (sym o.padding))))))

net_back : (l : List Bool) (n : Net) (r : List Bool) → take_net l ≡ got n r → (put_net n r ≡ l) × OkNet n
unfolding take_net take_counts take_blocks put_net
net_back l n r h =
    by_both _ _ _ _ h λ e r₁ e₁ h₁.
    by_both _ _ _ _ h₁ λ z r₂ e₂ h₂.
    by_both _ _ _ _ h₂ λ k r₃ e₃ h₃.
    by_both _ _ _ _ h₃ λ c r₄ e₄ h₄.
    by_both _ _ _ _ h₄ λ bs r₅ e₅ h₅.
    let f₁ = tested-back 4 (between 1 1) 2 l e r₁ e₁ in
    let f₂ = tested-back 12 (between 0 0) 2 r₁ z r₂ e₂ in
    let f₃ = tested-back 8 (between 2 64) 3 r₂ k r₃ e₃ in
    let f₄ = tested-back 8 (between 1 128) 3 r₃ c r₄ e₄ in
    let t₄ = true_between 1 128 c f₄.2 in
    let f₅ = many_back (block_codec c t₄.1) k r₄ bs r₅ e₅ in
    let all : take k (padded zero_block 64 bs) ≡ bs = take-padded zero_block 64 k bs f₅.1 in
    let t₃ = true_between 2 64 k f₃.2 in
    along (λ (n : Net) (r : List Bool). (put_net n r ≡ l) × OkNet n) h₅ (
      rw (all, f₅.0, f₄.0, f₃.0, ← only 0 z f₂.2, f₂.0, ← only 1 e f₁.2) f₁.0,
      record {
        blocks_least = t₃.0;
        blocks_most = t₃.1;
        channels_least = t₄.0;
        channels_most = t₄.1;
        blocks = rw all f₅.2;
        padding = rw all refl;
      },
    )

net_front : (n : Net) (r s : List Bool) → put_net n r ++ s ≡ put_net n (r ++ s)
unfolding put_net
net_front n r s = simp (field_front, many_front (block_codec 0 (omega arith)))

-- bytes
pub bits_of_bytes_of : (k : ℕ) (l : List Bool) → length l ≡ 8 * k → bits_of (bytes_of k l) ≡ l
unfolding bytes_of
bits_of_bytes_of zero [] h = refl
bits_of_bytes_of zero (b ∷ l) h = absurd (omega arith)
bits_of_bytes_of (suc k) l h =
    ap₂ ◌++◌ (bits-take 8 l (omega arith)) (bits_of_bytes_of k (drop 8 l) (simp length-drop (omega arith))) ∙ take-append-drop 8 l

pub bytes_of_bits_of : (f : List ℕ) → AreBytes f → bytes_of (length f) (bits_of f) ≡ f
unfolding bytes_of
bytes_of_bits_of [] h = refl
bytes_of_bits_of (b ∷ f) h =
    ap₂ ◌∷◌ (number-bits 8 b h.0) (bytes_of_bits_of f h.1)

blank_zeros : (n : ℕ) → blank (replicate n false) ≡ true
unfolding blank
blank_zeros zero = refl
blank_zeros (suc n) = blank_zeros n

zeros_blank : (l : List Bool) → blank l ≡ true → l ≡ replicate (length l) false
unfolding blank
zeros_blank [] h = refl
zeros_blank (true ∷ l) h = let z : ◌≡◌ {A = ℕ} 0 1 = cc in absurd (omega arith)
zeros_blank (false ∷ l) h = ap (λ t. false ∷ t) (zeros_blank l h)

finish_there : (n : Net) (r : List Bool) → length r < 8 → blank r ≡ true → finish (got n r) ≡ loaded n
unfolding finish blank_end
finish_there n r a b = ap (λ t. cond t (loaded n) (denied 7)) (ap₂ ◌&&◌ (lt-ltb (length r) 8 a) b)

ended-back : (t : Bool) (m n : Net) → cond t (loaded m) (denied 7) ≡ loaded n → (t ≡ true) × (m ≡ n)
ended-back true m n h = (refl, cc)
ended-back false m n h = let z : ◌≡◌ {A = ℕ} 0 1 = cc in absurd (omega arith)

finish-back : {G : Type 0} (t : Taken Net) (n : Net) → finish t ≡ loaded n
    → ((r : List Bool) → t ≡ got n r → length r < 8 → blank r ≡ true → G) → G
unfolding finish blank_end
finish-back (refused e) n h go = let z : ◌≡◌ {A = ℕ} 0 1 = cc in absurd (omega arith)
finish-back (got m r) n h go =
    let s = ended-back _ m n h in
    let b = both _ _ s.0 in
    go r (ap (λ (m : Net). got m r) s.1) (ltb-true _ _ b.0) b.1

-- loading a written form returns the net
pub load_written : (n : Net) → OkNet n → parse (form_of n) ≡ loaded n
unfolding parse pack encode padded
load_written n o =
    let l = put_net n [] in
    let k = (length l + 7) / 8 in
    let zeros = replicate (8 * k - length l) false in
    let long : length (l ++ zeros) ≡ 8 * k = simp (length-append, length-replicate) (omega arith) in
    let few : length zeros < 8 = simp length-replicate (omega arith) in
    rw (bits_of_bytes_of k (l ++ zeros) long, net_front n [] zeros, net_there n zeros o) (finish_there n zeros few (blank_zeros (8 * k - length l)))

-- writing a loaded form returns its bytes
pub write_loaded : (f : List ℕ) (n : Net) → AreBytes f → parse f ≡ loaded n → form_of n ≡ f
unfolding parse pack encode padded
write_loaded f n h e =
    finish-back _ n e λ r t few z.
    let b = net_back (bits_of f) n r t in
    let whole : put_net n [] ++ r ≡ bits_of f = net_front n [] r ∙ b.0 in
    let sizes : length (put_net n []) + length r ≡ 8 * length f =
    sym (length-append (put_net n []) r) ∙ ap length whole ∙ length_bits_of f in
    let bytes : (length (put_net n []) + 7) / 8 ≡ length f = omega arith in
    let left : 8 * length f - length (put_net n []) ≡ length r = omega arith in
    rw (bytes, left, ← zeros_blank r z, whole) (bytes_of_bits_of f h)

-- a loaded net is ok
pub loaded_ok : (f : List ℕ) (n : Net) → parse f ≡ loaded n → OkNet n
unfolding parse
loaded_ok f n e = finish-back _ n e λ r t few z. (net_back (bits_of f) n r t).1
