-- The language of layout tables: a layout is one list of slots in byte order, and reading, writing, what the fixed places hold and
-- what "padding zero" means are all functions of that list.
use Rattle.std.specs.Prelude.{ℕ, suc, ◌+◌, ◌*◌, ◌/◌, ◌%◌, ◌^◌, ◌<◌, ◌≡◌, Bool, true, ◌&&◌, List, [], ◌∷◌, ◌++◌, get_or, take, drop, eqb, ltb}
use Rattle.wire.specs.Bytes.{num, big}

-- a run of bits within a number: kept as read; of one allowed value; or padding
pub data Part : Type 0 where
  keep : ℕ → Part
  only : ℕ → ℕ → Part
  skip : ℕ → Part

-- a place of a layout, so many bytes wide: a number kept as read; padding; one allowed value; or cut into parts, highest bits first
pub data Slot : Type 0 where
  kept : ℕ → Slot
  padding : ℕ → Slot
  one : ℕ → ℕ → Slot
  parts : ℕ → List Part → Slot

-- how many bits the parts take
abbrev pub bits : List Part → ℕ
bits [] = 0
bits (keep b ∷ ps) = b + bits ps
bits (only b u ∷ ps) = b + bits ps
bits (skip b ∷ ps) = b + bits ps

-- the b bits of v that stand above the parts ps
abbrev pub above : ℕ → List Part → ℕ → ℕ
above b ps v = v / 2 ^ bits ps % 2 ^ b

-- the kept parts of the number v
abbrev pub split : List Part → ℕ → List ℕ
split [] v = []
split (keep b ∷ ps) v = above b ps v ∷ split ps v
split (only b u ∷ ps) v = split ps v
split (skip b ∷ ps) v = split ps v

-- the number whose kept parts are xs, its fixed parts right and its padding zero
abbrev pub join : List Part → List ℕ → ℕ
join [] xs = 0
join (keep b ∷ ps) xs = get_or xs 0 0 * 2 ^ bits ps + join ps (drop 1 xs)
join (only b u ∷ ps) xs = u * 2 ^ bits ps + join ps xs
join (skip b ∷ ps) xs = join ps xs

-- the number v with its padding parts zero
abbrev pub clean : List Part → ℕ → ℕ
clean [] v = 0
clean (keep b ∷ ps) v = above b ps v * 2 ^ bits ps + clean ps v
clean (only b u ∷ ps) v = above b ps v * 2 ^ bits ps + clean ps v
clean (skip b ∷ ps) v = clean ps v

-- whether each fixed part of v has its one allowed value
abbrev pub fixed : List Part → ℕ → Bool
fixed [] v = true
fixed (keep b ∷ ps) v = fixed ps v
fixed (only b u ∷ ps) v = eqb (above b ps v) u && fixed ps v
fixed (skip b ∷ ps) v = fixed ps v

-- whether each padding part of v is zero
abbrev pub bare : List Part → ℕ → Bool
bare [] v = true
bare (keep b ∷ ps) v = bare ps v
bare (only b u ∷ ps) v = bare ps v
bare (skip b ∷ ps) v = eqb (above b ps v) 0 && bare ps v

-- how many values the parts keep
abbrev pub keeps : List Part → ℕ
keeps [] = 0
keeps (keep b ∷ ps) = suc (keeps ps)
keeps (only b u ∷ ps) = keeps ps
keeps (skip b ∷ ps) = keeps ps

-- a slot's width in bytes
abbrev pub wide : Slot → ℕ
wide (kept w) = w
wide (padding w) = w
wide (one w u) = w
wide (parts w ps) = w

-- how many values a slot keeps
abbrev pub count : Slot → ℕ
count (kept w) = 1
count (padding w) = 0
count (one w u) = 0
count (parts w ps) = keeps ps

-- the values that a slot keeps of the number v
abbrev pub values : Slot → ℕ → List ℕ
values (kept w) v = v ∷ []
values (padding w) v = []
values (one w u) v = []
values (parts w ps) v = split ps v

-- the number that a slot with the values xs is written as
abbrev pub number : Slot → List ℕ → ℕ
number (kept w) xs = get_or xs 0 0
number (padding w) xs = 0
number (one w u) xs = u
number (parts w ps) xs = join ps xs

-- the number v of a slot, its padding zero
abbrev pub tidy : Slot → ℕ → ℕ
tidy (kept w) v = v
tidy (padding w) v = 0
tidy (one w u) v = v
tidy (parts w ps) v = clean ps v

-- whether the number v of a slot has the fixed values
abbrev pub right : Slot → ℕ → Bool
right (kept w) v = true
right (padding w) v = true
right (one w u) v = eqb v u
right (parts w ps) v = fixed ps v

-- whether the number v of a slot has its padding zero
abbrev pub blank : Slot → ℕ → Bool
blank (kept w) v = true
blank (padding w) v = eqb v 0
blank (one w u) v = true
blank (parts w ps) v = bare ps v

-- a layout's width in bytes
abbrev pub width : List Slot → ℕ
width [] = 0
width (s ∷ t) = wide s + width t

-- how many values a layout keeps
abbrev pub counts : List Slot → ℕ
counts [] = 0
counts (s ∷ t) = count s + counts t

-- the values kept of the bytes d, whose layout t starts at byte o
abbrev pub read : ℕ → List Slot → List ℕ → List ℕ
read o [] d = []
read o (s ∷ t) d = values s (num (wide s) o d) ++ read (o + wide s) t d

-- the bytes that the values xs are written as
abbrev pub fill : List Slot → List ℕ → List ℕ
fill [] xs = []
fill (s ∷ t) xs = big (wide s) (number s (take (count s) xs)) ++ fill t (drop (count s) xs)

-- the bytes of d that the layout t takes from byte o on, with padding zero
abbrev pub clear : ℕ → List Slot → List ℕ → List ℕ
clear o [] d = []
clear o (s ∷ t) d = big (wide s) (tidy s (num (wide s) o d)) ++ clear (o + wide s) t d

-- whether every fixed place of d has its one allowed value
abbrev pub all_fixed : ℕ → List Slot → List ℕ → Bool
all_fixed o [] d = true
all_fixed o (s ∷ t) d = right s (num (wide s) o d) && all_fixed (o + wide s) t d

-- whether every padding place of d is zero
abbrev pub all_blank : ℕ → List Slot → List ℕ → Bool
all_blank o [] d = true
all_blank o (s ∷ t) d = blank s (num (wide s) o d) && all_blank (o + wide s) t d

-- whether a table is sound: parts fill their number, and a fixed value fits its place
abbrev pub sound_parts : List Part → Bool
sound_parts [] = true
sound_parts (keep b ∷ ps) = sound_parts ps
sound_parts (only b u ∷ ps) = ltb u (2 ^ b) && sound_parts ps
sound_parts (skip b ∷ ps) = sound_parts ps

abbrev pub sound : List Slot → Bool
sound [] = true
sound (kept w ∷ t) = sound t
sound (padding w ∷ t) = sound t
sound (one w u ∷ t) = ltb u (256 ^ w) && sound t
sound (parts w ps ∷ t) = eqb (2 ^ bits ps) (256 ^ w) && sound_parts ps && sound t

-- the values xs are as many as the layout keeps, and each fits its place
abbrev pub FitParts : List Part → List ℕ → Type 0
FitParts [] xs = xs ≡ []
FitParts (keep b ∷ ps) [] = ⊥
FitParts (keep b ∷ ps) (x ∷ xs) = (x < 2 ^ b) × FitParts ps xs
FitParts (only b u ∷ ps) xs = FitParts ps xs
FitParts (skip b ∷ ps) xs = FitParts ps xs

abbrev pub Fit : List Slot → List ℕ → Type 0
Fit [] xs = xs ≡ []
Fit (kept w ∷ t) [] = ⊥
Fit (kept w ∷ t) (x ∷ xs) = (x < 256 ^ w) × Fit t xs
Fit (padding w ∷ t) xs = Fit t xs
Fit (one w u ∷ t) xs = Fit t xs
Fit (parts w ps ∷ t) xs = FitParts ps (take (keeps ps) xs) × Fit t (drop (keeps ps) xs)
