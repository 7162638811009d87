-- What a NAS message is made of, as data: how its parts are spelled, read and written.
use Rattle.std.specs.Prelude.{◌≡◌, ℕ, ◌+◌, ◌*◌, ◌/◌, ◌%◌, ◌<◌, ◌≤◌, ◌==◌, ◌&&◌, Bool, nat_lt, nat_le, if◌then◌else◌, List, [], ◌∷◌, ◌++◌, length, take, drop, Option, Some, None}
use Rattle.nas_elements.specs.declared.identity.TaiList.{TaiList}
use Rattle.nas_elements.specs.declared.identity.Guti.{Guti}
use Rattle.nas_elements.specs.declared.identity.MobileIdentity.{MobileIdentity}
use Rattle.nas_elements.specs.Identities.{SpellsTaiList, tai_list_of, tai_list_octets, TaiListFits, SpellsGuti, guti_of, guti_octets, GutiFits, SpellsIdentity, identity_of, identity_octets, IdentityFits, SpellsLabel, label_of}

-- one reading after another
infixl 10 ◌>>=◌
abbrev pub ◌>>=◌ : {A B : Type 0} → Option A → (A → Option B) → Option B
(Some x) >>= f = f x
None >>= f = None

-- a half octet
pub data Half : Type 0 where
  spare : Half  -- not compared, written as 0
  three : Half  -- a number in the low three bits; the fourth is spare
  flagged : Half  -- a number in the low three bits, and a flag above them
  four : Half  -- a number in all four bits
  exactly : ℕ → Half  -- the low three bits are these; the fourth is spare

-- what follows a length
pub data Content : Type 0 where
  between : ℕ → ℕ → Content  -- from LO to HI octets
  identity : Content
  guti : Content
  tai_list : Content  -- one tracking area
  label : Content  -- a length again, and one label

pub data Part : Type 0 where
  constant : ℕ → Part  -- this octet
  octet : Part  -- any octet
  halves : Half → Half → Part  -- an octet: the low half, the high half
  fixed : ℕ → Part  -- this number of octets
  lv : Content → Part  -- after a length of one octet
  long : Part  -- any octets after a length of two octets

abbrev pub HalfValue : Half → Type 0
HalfValue spare = Unit {0}
HalfValue three = ℕ
HalfValue flagged = ℕ × Bool
HalfValue four = ℕ
HalfValue (exactly c) = Unit {0}

abbrev pub ContentValue : Content → Type 0
ContentValue (between lo hi) = List ℕ
ContentValue identity = MobileIdentity
ContentValue guti = Guti
ContentValue tai_list = TaiList
ContentValue label = List ℕ

abbrev pub Value : Part → Type 0
Value (constant c) = Unit {0}
Value octet = ℕ
Value (halves low high) = HalfValue low × HalfValue high
Value (fixed n) = List ℕ
Value (lv c) = ContentValue c
Value long = List ℕ

abbrev pub Values : List Part → Type 0
Values [] = Unit {0}
Values (p ∷ ps) = Value p × Values ps

-- ---- spelling

abbrev pub SpellsHalf : (h : Half) → HalfValue h → ℕ → Type 0
SpellsHalf spare v n = Unit {0}
SpellsHalf three v n = v ≡ n % 8
SpellsHalf flagged v n = (v.0 ≡ n % 8) × (v.1 ≡ nat_le 8 n)
SpellsHalf four v n = v ≡ n
SpellsHalf (exactly c) v n = n % 8 ≡ c

abbrev pub SpellsContent : (c : Content) → ContentValue c → List ℕ → Type 0
SpellsContent (between lo hi) xs os = (os ≡ xs) × (lo ≤ length xs) × (length xs ≤ hi)
SpellsContent identity i os = SpellsIdentity i os
SpellsContent guti g os = SpellsGuti g os
SpellsContent tai_list a os = SpellsTaiList a os
SpellsContent label xs os = SpellsLabel xs os

abbrev pub SpellsPart : (p : Part) → Value p → List ℕ → Type 0
SpellsPart (constant c) v os = os ≡ c ∷ []
SpellsPart octet n os = os ≡ n ∷ []
SpellsPart (halves low high) v os = (n : ℕ) × (os ≡ n ∷ []) × SpellsHalf low v.0 (n % 16) × SpellsHalf high v.1 (n / 16)
SpellsPart (fixed n) xs os = (os ≡ xs) × (length xs ≡ n)
SpellsPart (lv c) v os = (xs : List ℕ) × (os ≡ length xs ∷ xs) × SpellsContent c v xs
SpellsPart long xs os = (a : ℕ) × (b : ℕ) × (os ≡ a ∷ b ∷ xs) × (a * 256 + b ≡ length xs)

abbrev pub SpellsParts : (ps : List Part) → Values ps → List ℕ → Type 0
SpellsParts [] v os = os ≡ []
SpellsParts (p ∷ ps) v os =
    (front : List ℕ) × (rest : List ℕ) × (os ≡ front ++ rest) × SpellsPart p v.0 front × SpellsParts ps v.1 rest

-- ---- reading from the left: a value and the octets after it

abbrev pub half_of : (h : Half) → ℕ → Option (HalfValue h)
half_of spare n = Some tt
half_of three n = Some (n % 8)
half_of flagged n = Some (n % 8, nat_le 8 n)
half_of four n = Some n
half_of (exactly c) n = if n % 8 == c then Some tt else None

abbrev pub content_of : (c : Content) → List ℕ → Option (ContentValue c)
content_of (between lo hi) os = if nat_le lo (length os) && nat_le (length os) hi then Some os else None
content_of identity os = identity_of os
content_of guti os = guti_of os
content_of tai_list os = tai_list_of os
content_of label os = label_of os

unfoldable pub octet_at : List ℕ → Option (ℕ × List ℕ)
octet_at [] = None
octet_at (n ∷ os) = Some (n, os)

unfoldable pub fixed_at : ℕ → List ℕ → Option (List ℕ × List ℕ)
fixed_at n os = if nat_lt (length os) n then None else Some (take n os, drop n os)

unfoldable pub short_at : List ℕ → Option (List ℕ × List ℕ)
short_at os = do
  n ← octet_at os
  fixed_at n.0 n.1

unfoldable pub long_at : List ℕ → Option (List ℕ × List ℕ)
long_at os = do
  a ← octet_at os
  b ← octet_at a.1
  fixed_at (a.0 * 256 + b.0) b.1

abbrev pub read_part : (p : Part) → List ℕ → Option (Value p × List ℕ)
read_part (constant c) os = do
  n ← octet_at os
  if n.0 == c then Some (tt, n.1) else None
read_part octet os = octet_at os
read_part (halves low high) os = do
  n ← octet_at os
  l ← half_of low (n.0 % 16)
  h ← half_of high (n.0 / 16)
  Some ((l, h), n.1)
read_part (fixed n) os = fixed_at n os
read_part (lv c) os = do
  xs ← short_at os
  v ← content_of c xs.0
  Some (v, xs.1)
read_part long os = long_at os

abbrev pub read_parts : (ps : List Part) → List ℕ → Option (Values ps × List ℕ)
read_parts [] os = Some (tt, os)
read_parts (p ∷ ps) os = do
  first ← read_part p os
  others ← read_parts ps first.1
  Some ((first.0, others.0), others.1)

-- ---- writing

abbrev pub write_half : (h : Half) → HalfValue h → ℕ
write_half spare v = 0
write_half three n = n
write_half flagged v = if v.1 then 8 + v.0 else v.0
write_half four n = n
write_half (exactly c) v = c

-- a length in one octet, and in two
abbrev pub short : List ℕ → List ℕ
short xs = length xs ∷ xs

abbrev pub wide : List ℕ → List ℕ
wide xs = length xs / 256 ∷ length xs % 256 ∷ xs

abbrev pub write_content : (c : Content) → ContentValue c → List ℕ
write_content (between lo hi) xs = xs
write_content identity i = identity_octets i
write_content guti g = guti_octets g
write_content tai_list a = tai_list_octets a
write_content label xs = short xs

abbrev pub write_part : (p : Part) → Value p → List ℕ
write_part (constant c) v = c ∷ []
write_part octet n = n ∷ []
write_part (halves low high) v = (write_half high v.1 * 16 + write_half low v.0) ∷ []
write_part (fixed n) xs = xs
write_part (lv c) v = short (write_content c v)
write_part long xs = wide xs

abbrev pub write_parts : (ps : List Part) → Values ps → List ℕ
write_parts [] v = []
write_parts (p ∷ ps) v = write_part p v.0 ++ write_parts ps v.1

-- what may be written
abbrev pub HalfFits : (h : Half) → HalfValue h → Type 0
HalfFits spare v = Unit {0}
HalfFits three n = n < 8
HalfFits flagged v = v.0 < 8
HalfFits four n = n < 16
HalfFits (exactly c) v = c < 8

abbrev pub ContentFits : (c : Content) → ContentValue c → Type 0
ContentFits (between lo hi) xs = (lo ≤ length xs) × (length xs ≤ hi)
ContentFits identity i = IdentityFits i
ContentFits guti g = GutiFits g
ContentFits tai_list a = TaiListFits a
ContentFits label xs = (1 ≤ length xs) × (length xs ≤ 63)

abbrev pub PartFits : (p : Part) → Value p → Type 0
PartFits (constant c) v = Unit {0}
PartFits octet n = Unit {0}
PartFits (halves low high) v = HalfFits low v.0 × HalfFits high v.1
PartFits (fixed n) xs = length xs ≡ n
PartFits (lv c) v = ContentFits c v
PartFits long xs = length xs < 65536

abbrev pub Fit : (ps : List Part) → Values ps → Type 0
Fit [] v = Unit {0}
Fit (p ∷ ps) v = PartFits p v.0 × Fit ps v.1

-- each is an octet: below 256
abbrev pub Small : List ℕ → Type 0
Small [] = Unit {0}
Small (o ∷ os) = (o < 256) × Small os
