-- The choices for the subframes, made one by one. Assumes nothing.
use Prim.Native.Nat.{ℕ, ◌+◌, ◌≤◌, ◌<◌}
use native.Mathlib.Numerals.{add-one}
use native.Mathlib.Omega.{arith}
use mathlib.Core.Path.{◌≡◌, refl, ap, ap₂, sym, ◌∙◌}
use mathlib.Core.List.{List, [], ◌∷◌, ◌++◌, map, map-map}
use lib.IntN.{ℤ}
use lib.ListN.{length, take, set, length-set}
use lib.Seq.{take-suc-set}
use Rattle.rfc9639.specs.declared.ChannelAssignment.{ChannelAssignment}
use Rattle.rfc9639.specs.declared.Lane.{Lane}
use Rattle.rfc9639.specs.HeaderCodes.{channel_count}
use Rattle.rfc9639.specs.SubframeCoding.{numbers_from}
use Rattle.rfc9639.specs.Write.{lane_of, lanes, lane_width, stored}
use Rattle.rfc9639.proofs.Lists.{map-numbers_from-last}
use Rattle.subframe_choice.specs.declared.Choice.{Choice}
use Rattle.subframe_choice.specs.Choices.{choice_of}
use Rattle.frame_writer.specs.Private.{lane_choice}

-- ---- the first c of `count` places hold what f gives for them

pub record Planned {A : Type 0} (f : ℕ → A) (count : ℕ) (places : List A) (c : ℕ) : Type 0 where
  pub long : length places ≡ 8
  pub few : count ≤ 8
  pub within : c ≤ count
  pub done : take c places ≡ map f (numbers_from 0 c)

module _ {A : Type 0} (f : ℕ → A) (count : ℕ) where
  pub begin : count ≤ 8 → (places : List A) → length places ≡ 8 → Planned f count places 0
  unfolding numbers_from
  begin h places e = record { long = e; few = h; within = omega arith; done = refl }

  module _ {places : List A} {c : ℕ} (p : Planned f count places c) where
    pub step : c < count → (x : A) → x ≡ f c → Planned f count (set places c x) (c + 1)
    step h x e = record {
      long = length-set places c x ∙ p.long;
      few = p.few;
      within = omega arith;
      done =
          ap (λ n. take n (set places c x)) (add-one c) ∙ take-suc-set places c x (omega (arith, p.long, p.few)) ∙ ap₂ (λ l y. l ++ (y ∷ [])) p.done e
          ∙ sym (map-numbers_from-last f c);
    }

    pub at_end : count ≤ c → c ≡ count
    at_end h = omega (arith, p.within)

    pub end : count ≤ c → take count places ≡ map f (numbers_from 0 count)
    end h = let e : count ≡ c = omega (arith, p.within) in ap (λ n. take n places) e ∙ p.done ∙ ap (λ n. map f (numbers_from 0 n)) (sym e)

-- ---- the lanes

-- what a source stores, by its parts
pub same-stored : {n n' : ℕ} {xs xs' : List ℤ} {lane lane' : Lane} → n ≡ n' → xs ≡ xs' → lane ≡ lane' → stored n xs lane ≡ stored n' xs' lane'
same-stored e f g = cc

-- the choice that was made for a lane and its width
pub chosen-lane : (b n : ℕ) (xs : List ℤ) (lane : Lane) {r : Choice} {w : ℕ} {ys : List ℤ} → r ≡ choice_of w ys → w ≡ lane_width b lane → ys ≡ stored n xs lane
    → r ≡ lane_choice b n xs lane
unfolding lane_choice
chosen-lane b n xs lane e f g = e ∙ ap₂ choice_of f g

-- the choices for all subframes
pub planned_all : (a : ChannelAssignment) (b n : ℕ) (xs : List ℤ) {count c : ℕ} {places : List Choice} → Planned (λ i. lane_choice b n xs (lane_of a i)) count places c
    → count ≤ c → count ≡ channel_count a → take (channel_count a) places ≡ map (lane_choice b n xs) (lanes a)
unfolding lanes
planned_all a b n xs {count} {c} {places} p h e =
    ap (λ k. take k places) (sym e) ∙ end (λ i. lane_choice b n xs (lane_of a i)) count p h ∙ ap (λ k. map (λ i. lane_choice b n xs (lane_of a i)) (numbers_from 0 k)) e
    ∙ sym (map-map (lane_choice b n xs) (lane_of a) (numbers_from 0 (channel_count a)))
