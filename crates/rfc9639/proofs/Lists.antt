-- Lists of the definition: consecutive numbers, channels and their lanes, pairs of samples. Assumes nothing.
use Prim.Native.Nat.{ℕ, zero, suc, ◌+◌, ◌≤◌, ◌<◌}
use native.Mathlib.Nat.{add-zero, zero-add}
use native.Mathlib.Numerals.{add-one}
use native.Mathlib.Omega.{arith}
use mathlib.Core.Path.{◌≡◌, refl, ap, sym, ◌∙◌}
use mathlib.Core.Bool.{Bool, true, false, cond}
use mathlib.Core.List.{List, [], ◌∷◌, ◌++◌, map, map-append}
use borrow.Author.Tests.{ltb-true}
use lib.Dec.{ltb, eqb}
use lib.IntN.{ℤ}
use lib.ListN.{length, get_or, replicate, length-map}
use Rattle.reading.proofs.Postconditions.{Every}
use Rattle.rfc9639.specs.declared.ChannelAssignment.{ChannelAssignment}
use Rattle.rfc9639.specs.declared.ChannelAssignment.TheVariants.{Independent, LeftSide, SideRight, MidSide}
use Rattle.rfc9639.specs.declared.Lane.{Lane}
use Rattle.rfc9639.specs.declared.Lane.TheVariants.{Channel, Mid, Side}
use Rattle.rfc9639.specs.HeaderCodes.{assignment, channel_count}
use Rattle.rfc9639.specs.Stereo.{pairwise}
use Rattle.rfc9639.specs.Frame.{widths}
use Rattle.rfc9639.specs.SubframeCoding.{numbers_from}
use Rattle.rfc9639.specs.Write.{lane_of, lanes, lane_width}

-- ---- consecutive numbers

-- what holds of all numbers below a + n holds of the n numbers from a up
pub every-numbers_from : (P : ℕ → Type 0) (a n : ℕ) → ((i : ℕ) → i < a + n → P i) → Every P (numbers_from a n)
unfolding numbers_from
every-numbers_from P a zero f = tt
every-numbers_from P a (suc n) f = (f a (omega arith), every-numbers_from P (suc a) n (λ i h. f i (omega arith)))

length-numbers_from : (a n : ℕ) → length (numbers_from a n) ≡ n
unfolding numbers_from
length-numbers_from a zero = refl
length-numbers_from a (suc n) = ap suc (length-numbers_from (suc a) n)

numbers_from_at : (a n i d : ℕ) → i < n → get_or (numbers_from a n) i d ≡ a + i
unfolding numbers_from
numbers_from_at a zero i d h = absurd (omega arith)
numbers_from_at a (suc n) zero d h = omega arith
numbers_from_at a (suc n) (suc i) d h = numbers_from_at (suc a) n i d (omega arith) ∙ (let e : suc a + i ≡ a + suc i = omega arith in e)

numbers_from-last : (a n : ℕ) → numbers_from a (suc n) ≡ numbers_from a n ++ ((a + n) ∷ [])
unfolding numbers_from
numbers_from-last a zero = ap (λ k. k ∷ []) (sym (add-zero a))
numbers_from-last a (suc n) = ap (λ l. a ∷ l) (numbers_from-last (suc a) n ∙ ap (λ k. numbers_from (suc a) n ++ (k ∷ [])) (let e : suc a + n ≡ a + suc n = omega arith in e))

-- a function mapped over them: one more, and by index
pub map-numbers_from-last : {A : Type 0} (f : ℕ → A) (n : ℕ) → map f (numbers_from 0 (n + 1)) ≡ map f (numbers_from 0 n) ++ (f n ∷ [])
map-numbers_from-last f n =
    ap (map f) (ap (numbers_from 0) (add-one n) ∙ numbers_from-last 0 n ∙ ap (λ k. numbers_from 0 n ++ (k ∷ [])) (zero-add n)) ∙ map-append f (numbers_from 0 n) (n ∷ [])

pub get_d_map : {A B : Type 0} (f : A → B) (l : List A) (i : ℕ) (d : A) (e : B) → i < length l → get_or (map f l) i e ≡ f (get_or l i d)
get_d_map f [] i d e h = absurd (omega arith)
get_d_map f (x ∷ l) zero d e h = refl
get_d_map f (x ∷ l) (suc i) d e h = get_d_map f l i d e (omega arith)

-- ---- the channels of an assignment

pub channels_between : (code : ℕ) → (1 ≤ channel_count (assignment code)) × (channel_count (assignment code) ≤ 8)
unfolding assignment channel_count
channels_between code = go (ltb code 8) refl (eqb code 8) (eqb code 9)
  where
    go : (a : Bool) → ltb code 8 ≡ a → (b c : Bool)
        → (1 ≤ channel_count (cond a (Independent (code + 1)) (cond b LeftSide (cond c SideRight MidSide))))
        × (channel_count (cond a (Independent (code + 1)) (cond b LeftSide (cond c SideRight MidSide))) ≤ 8)
    go true e b c = let l = ltb-true code 8 e in (omega arith, omega arith)
    go false e true c = (omega arith, omega arith)
    go false e false true = (omega arith, omega arith)
    go false e false false = (omega arith, omega arith)

-- ---- the lanes that store them (section 4.2)

module _ (a : ChannelAssignment) where
  pub length-lanes : length (lanes a) ≡ channel_count a
  unfolding lanes
  length-lanes = length-map (numbers_from 0 (channel_count a)) (lane_of a) ∙ length-numbers_from 0 (channel_count a)

  pub lane_at : (c : ℕ) (d : Lane) → c < channel_count a → get_or (lanes a) c d ≡ lane_of a c
  unfolding lanes
  lane_at c d h =
      get_d_map (lane_of a) (numbers_from 0 (channel_count a)) c 0 d (omega (arith, length-numbers_from 0 (channel_count a)))
      ∙ ap (lane_of a) (numbers_from_at 0 (channel_count a) c 0 h ∙ zero-add c)

pub width_within : (b : ℕ) (lane : Lane) → (b ≤ lane_width b lane) × (lane_width b lane ≤ b + 1)
unfolding lane_width
width_within b (Channel c) = omega arith
width_within b Mid = omega arith
width_within b Side = omega arith

widths_independent : (k b a n : ℕ) → replicate n b ≡ map (lane_width b) (map (lane_of (Independent k)) (numbers_from a n))
unfolding lane_width lane_of numbers_from
widths_independent k b a zero = refl
widths_independent k b a (suc n) = ap (λ ws. b ∷ ws) (widths_independent k b (suc a) n)

-- the widths that the reader uses are those of the lanes
pub widths-lanes : (a : ChannelAssignment) (b : ℕ) → widths a b ≡ map (lane_width b) (lanes a)
unfolding widths lanes channel_count lane_width lane_of numbers_from
widths-lanes (Independent k) b = widths_independent k b 0 k
widths-lanes LeftSide b = refl
widths-lanes SideRight b = refl
widths-lanes MidSide b = refl

-- ---- pairs of samples of which one is kept

pub pairwise-first : (xs ys : List ℤ) → length xs ≤ length ys → pairwise (λ x y. x) xs ys ≡ xs
unfolding pairwise
pairwise-first [] ys h = refl
pairwise-first (x ∷ xs) [] h = absurd (omega arith)
pairwise-first (x ∷ xs) (y ∷ ys) h = ap (λ (l : List ℤ). x ∷ l) (pairwise-first xs ys (omega arith))

pub pairwise-second : (xs ys : List ℤ) → length ys ≤ length xs → pairwise (λ x y. y) xs ys ≡ ys
unfolding pairwise
pairwise-second [] [] h = refl
pairwise-second [] (y ∷ ys) h = absurd (omega arith)
pairwise-second (x ∷ xs) [] h = refl
pairwise-second (x ∷ xs) (y ∷ ys) h = ap (λ (l : List ℤ). y ∷ l) (pairwise-second xs ys (omega arith))
