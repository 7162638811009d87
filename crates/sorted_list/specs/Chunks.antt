-- A list as the chunks that hold it.
use Rattle.std.specs.Prelude.{◌≡◌, ℕ, Bool, true, if◌then◌else◌, zero, suc, ◌+◌, ◌-◌, ◌*◌, ◌/◌, ◌%◌, ◌^◌, ◌<◌, ◌≤◌, min, max, List, [], ◌∷◌, ◌++◌, length}
use Rattle.sorted_list.specs.Ordered.{place, AllOver, Rising, Every}

module _ {X : Type 0} where
  -- the elements of the chunks, in turn
  abbrev pub flat : List (List X) → List X
  flat [] = []
  flat (c ∷ cs) = c ++ flat cs

  -- the key of the first element
  abbrev pub head_key : (X → ℕ) → List X → ℕ
  head_key key [] = 0
  head_key key (y ∷ ys) = key y

  -- the chunk to which a key belongs: the last one that begins at the key or below it, or the first one
  abbrev pub home : (X → ℕ) → ℕ → List (List X) → ℕ
  home key k cs = place (head_key key) (k + 1) cs - 1

  -- all keys are below
  abbrev pub AllUnder : (X → ℕ) → ℕ → List X → Type 0
  AllUnder key k [] = Unit {0}
  AllUnder key k (y ∷ ys) = (key y < k) × AllUnder key k ys

  -- the key belongs to the chunk at this index: the chunks before it are below the key, those after it above
  abbrev pub IsHome : (X → ℕ) → ℕ → ℕ → List (List X) → Type 0
  IsHome key k i [] = ⊥
  IsHome key k zero (c ∷ cs) = AllOver key k (flat cs)
  IsHome key k (suc i) (c ∷ cs) = AllUnder key k c × IsHome key k i cs

  abbrev pub IsFilled : List X → Type 0
  IsFilled c = 0 < length c

  abbrev pub IsEmpty : List X → Type 0
  IsEmpty c = c ≡ []

  -- what the chunks weigh: the last one 128 more than it has elements, each other one its elements, but at least 128. What is
  -- inserted adds at most 1, also where a chunk is divided, and no removal adds any.
  abbrev pub weight : List (List X) → ℕ
  weight [] = 128
  weight (c ∷ []) = length c + 128
  weight (c ∷ (d ∷ cs)) = max 128 (length c) + weight (d ∷ cs)

  -- each chunk and the next one have more than 128 elements together
  abbrev pub IsPaired : List (List X) → Type 0
  IsPaired [] = Unit {0}
  IsPaired (c ∷ []) = Unit {0}
  IsPaired (c ∷ (d ∷ cs)) = (128 < length c + length d) × IsPaired (d ∷ cs)

  -- the same of the chunks from this index on
  abbrev pub IsPairedFrom : ℕ → List (List X) → Type 0
  IsPairedFrom zero cs = IsPaired cs
  IsPairedFrom (suc i) [] = Unit {0}
  IsPairedFrom (suc i) (c ∷ cs) = IsPairedFrom i cs

  -- the same of the first n chunks
  abbrev pub IsPairedTo : ℕ → List (List X) → Type 0
  IsPairedTo zero cs = Unit {0}
  IsPairedTo (suc i) [] = Unit {0}
  IsPairedTo (suc zero) (c ∷ cs) = Unit {0}
  IsPairedTo (suc (suc i)) (c ∷ []) = Unit {0}
  IsPairedTo (suc (suc i)) (c ∷ (d ∷ cs)) = (128 < length c + length d) × IsPairedTo (suc i) (d ∷ cs)

-- `more` elements more, at any keys, need no more chunks than `total`, where `used` chunks of this weight are there: each
-- element a chunk at most, and no more chunks than the weight then allows.
abbrev pub IsEnough : ℕ → ℕ → ℕ → ℕ → Type 0
IsEnough more weight used total = min (128 * (used + more)) (weight + more - 128) ≤ 128 * total

-- these free chunks are enough for `more` elements beside `len`, however full the chunks are
abbrev pub wanted : ℕ → ℕ → ℕ
wanted len more = min more ((len + more) / 128 + 1)

-- these chunks, of which each two neighbours have more than 128 together, hold n elements, however they are spread
abbrev pub spread : ℕ → ℕ
spread count = count / 64 + min (count % 64) 1

-- how many free chunks are kept beside `len` elements and room for more: in a steady list enough for all of them
abbrev pub kept_chunks : ℕ → ℕ → Bool → ℕ
kept_chunks len room steady = if steady then spread (len + room) else wanted len room

-- the places that come back where an element is taken out
abbrev pub regained : Bool → ℕ
regained steady = if steady then 1 else 0

-- in a steady list there are chunks, places for them, and places for the free ones, for n elements
abbrev pub IsSteady : Bool → ℕ → ℕ → ℕ → ℕ → Type 0
IsSteady steady count total most held = steady ≡ true → (spread count ≤ total) × (spread count ≤ most) × (spread count ≤ held)

pub record IsChunked {X : Type 0} (key : X → ℕ) (chunks spares : List (List X)) (len : ℕ) : Type 0 where
  pub rising : Rising key (flat chunks)
  pub filled : Every IsFilled chunks
  pub empty : Every IsEmpty spares
  pub count : len ≡ length (flat chunks)

-- There is room for `more` elements beside `len`, where `used` chunks of this weight are there: `total` chunks with the
-- free ones, `most` of them at once, and places for `held` free ones.
pub record IsRoom (weight used total most held len room : ℕ) : Type 0 where
  pub chunks : IsEnough room weight used total
  pub places : IsEnough room weight used most
  pub free : wanted len room ≤ held
  pub fits : len + room < 2 ^ 64
