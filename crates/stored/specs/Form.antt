-- The stored form of a net (document 01, "The stored form"): how it is written (`form_of`) and what reading it finds (`parse`). A taker takes a value from
-- the front of a list of bits, a putter puts one there, and the refusals 1 to 6 fall at the first field that its taker refuses. The edition and the
-- reserved bits are two fields, and a field that the bytes cut short earns 1 whatever its visible bits are.
-- Assumes nothing.
use Rattle.std.specs.Prelude.{ℕ, zero, suc, ◌+◌, ◌-◌, ◌*◌, ◌/◌, List, [], ◌∷◌, ◌++◌, Bool, true, false, cond, ◌&&◌, length, take, drop, replicate, leb, ltb}
use Rattle.reader.specs.Bits.{bits, number, bits_of}
use Rattle.blocks.specs.Ports.{m_ok, ports_of, input_count, output_count, has_value}
use Rattle.blocks.specs.declared.Block.{Block}
use Rattle.blocks.specs.declared.Net.{Net}

-- ## Values

-- how many ports a block of this kind and m has
unfoldable pub port_count : ℕ → ℕ → ℕ
port_count kind m = input_count (ports_of kind m) + output_count (ports_of kind m)

-- a list made n long by zeros
unfoldable pub padded : {A : Type 0} → A → ℕ → List A → List A
padded z n l = l ++ replicate (n - length l) z

-- the block with these ports, and the rest of its ten 0
abbrev pub block : ℕ → ℕ → ℕ → List ℕ → Block
block kind m value ports = record { kind = kind; m = m; value = value; ports = padded 0 10 ports }

abbrev pub zero_block : Block
zero_block = record { kind = 0; m = 0; value = 0; ports = replicate 10 0 }

-- the net with these blocks, and the rest of its 64 zero
abbrev pub net_of : ℕ → ℕ → List Block → Net
net_of n c bs = record { size = n; channels = c; blocks = padded zero_block 64 bs }

abbrev pub zero_net : Net
zero_net = record { size = 0; channels = 0; blocks = replicate 64 zero_block }

-- ## Reading

-- what taking a value from the front of a list of bits finds: the value and the bits after it, or a refusal's number
pub data Taken (A : Type 0) : Type 0 where
  got : A → List Bool → Taken A
  refused : ℕ → Taken A

-- one taker after another
unfoldable pub and_then : {A B : Type 0} → Taken A → (A → List Bool → Taken B) → Taken B
and_then (got a r) k = k a r
and_then (refused e) k = refused e

-- refused e unless the test holds
unfoldable pub check : {A : Type 0} → Bool → ℕ → Taken A → Taken A
check test e t = cond test t (refused e)

-- a field of w bits, refused 1 where the bits end within it
unfoldable pub take_field : ℕ → List Bool → Taken ℕ
take_field w l = check (leb w (length l)) 1 (got (number (take w l)) (drop w l))

-- a field of w bits that has to meet a test, refused e where it does not
unfoldable pub take_tested : ℕ → (ℕ → Bool) → ℕ → List Bool → Taken ℕ
take_tested w ok e l = and_then (take_field w l) λ v r. check (ok v) e (got v r)

unfoldable pub between : ℕ → ℕ → ℕ → Bool
between low high n = leb low n && leb n high

-- n values, one after another
unfoldable pub take_many : {A : Type 0} → (List Bool → Taken A) → ℕ → List Bool → Taken (List A)
take_many one zero l = got [] l
take_many one (suc n) l = and_then (one l) λ a r. and_then (take_many one n r) λ xs r'. got (a ∷ xs) r'

-- a port: a channel below c
abbrev pub take_port : ℕ → List Bool → Taken ℕ
take_port c = take_tested 7 (λ p. ltb p c) 6

-- a value of 32 bits where the kind has one, else 0 from no bits
unfoldable pub take_value : Bool → List Bool → Taken ℕ
take_value has l = cond has (take_field 32 l) (got 0 l)

-- what follows a block's value: its ports
unfoldable pub take_rest : ℕ → ℕ → ℕ → ℕ → List Bool → Taken Block
take_rest c kind m value l = and_then (take_many (take_port c) (port_count kind m) l) λ ports r. got (block kind m value ports) r

-- what follows a block's m: its value, where its kind has one, and its ports
unfoldable pub take_valued : ℕ → ℕ → ℕ → List Bool → Taken Block
take_valued c kind m l = and_then (take_value (has_value kind) l) λ value r. take_rest c kind m value r

-- a block over c channels
unfoldable pub take_block : ℕ → List Bool → Taken Block
take_block c l =
    and_then (take_tested 4 (between 0 10) 4 l) λ kind r₁.
    and_then (take_tested 4 (m_ok kind) 5 r₁) λ m r₂.
    take_valued c kind m r₂

-- n blocks over c channels, and the net that they make
unfoldable pub take_blocks : ℕ → ℕ → List Bool → Taken Net
take_blocks n c l = and_then (take_many (take_block c) n l) λ bs r. got (net_of n c bs) r

-- the counts and what follows them
unfoldable pub take_counts : List Bool → Taken Net
take_counts l =
    and_then (take_tested 8 (between 2 64) 3 l) λ n r₁.
    and_then (take_tested 8 (between 1 128) 3 r₁) λ c r₂.
    take_blocks n c r₂

unfoldable pub take_net : List Bool → Taken Net
take_net l =
    and_then (take_tested 4 (between 1 1) 2 l) λ edition r₁.
    and_then (take_tested 12 (between 0 0) 2 r₁) λ reserved r₂.
    take_counts r₂

-- no bit is set
unfoldable pub blank : List Bool → Bool
blank [] = true
blank (b ∷ l) = cond b false (blank l)

-- what is left is less than a byte, and blank
unfoldable pub blank_end : List Bool → Bool
blank_end r = ltb (length r) 8 && blank r

-- what reading a form finds: its net, or a refusal of 1 to 7
pub data Outcome : Type 0 where
  loaded : Net → Outcome
  denied : ℕ → Outcome

-- refused 7 unless what is left is padding
unfoldable pub finish : Taken Net → Outcome
finish (got n r) = cond (blank_end r) (loaded n) (denied 7)
finish (refused e) = denied e

unfoldable pub parse : List ℕ → Outcome
parse f = finish (take_net (bits_of f))

-- ## Writing

unfoldable pub put_field : ℕ → ℕ → List Bool → List Bool
put_field w v r = bits w v ++ r

unfoldable pub put_many : {A : Type 0} → (A → List Bool → List Bool) → List A → List Bool → List Bool
put_many one [] r = r
put_many one (a ∷ xs) r = one a (put_many one xs r)

unfoldable pub put_value : Bool → ℕ → List Bool → List Bool
put_value has v r = cond has (put_field 32 v r) r

-- what follows a block's m: its value, where its kind has one, and its ports
unfoldable pub put_valued : Block → List Bool → List Bool
put_valued b r = put_value (has_value b.kind) b.value (put_many (put_field 7) (take (port_count b.kind b.m) b.ports) r)

unfoldable pub put_block : Block → List Bool → List Bool
put_block b r = put_field 4 b.kind (put_field 4 b.m (put_valued b r))

unfoldable pub put_net : Net → List Bool → List Bool
put_net n r =
    put_field 4 1 (put_field 12 0 (put_field 8 n.size (put_field 8 n.channels (put_many put_block (take n.size n.blocks) r))))

unfoldable pub encode : Net → List Bool
encode n = put_net n []

-- the bytes of 8 * k bits
unfoldable pub bytes_of : ℕ → List Bool → List ℕ
bytes_of zero l = []
bytes_of (suc k) l = number (take 8 l) ∷ bytes_of k (drop 8 l)

-- the bytes of a list of bits, with zero bits to the last byte's end
unfoldable pub pack : List Bool → List ℕ
pack l = let k = (length l + 7) / 8 in bytes_of k (padded false (8 * k) l)

-- a net's stored form
abbrev pub form_of : Net → List ℕ
form_of n = pack (encode n)
