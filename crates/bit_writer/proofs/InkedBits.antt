-- Inked bits: one list after another, whole bytes from the start, and what stays unchanged. Assumes nothing.
use Prim.Native.Nat.{ℕ, zero, suc, ◌+◌, ◌*◌, ◌^◌, ◌≤◌, ◌<◌}
use native.Mathlib.Nat.{add-zero, zero-add}
use native.Mathlib.Numerals.{add-one}
use native.Mathlib.Omega.{arith}
use mathlib.Core.Path.{◌≡◌, refl, ap, ap₂, sym, ◌∙◌, subst}
use mathlib.Core.Bool.{Bool, true, false, cond, ◌&&◌}
use mathlib.Core.List.{List, [], ◌∷◌, ◌++◌}
use lib.Dec.{ltb}
use lib.ListN.{length, take, drop, set, length-set, length-append, length-drop, take-append-drop}
use lib.Seq.{sets, sets-eq, take_at, length-take-le}
use borrow.Author.Tests.{lt-ltb, le-ltb, ltb-true, ltb-false}
use Rattle.reading.specs.Bytes.{bits_of_bytes}
use Rattle.reading.specs.NumbersAsBits.{spelt, bytes_of}
use Rattle.reading.proofs.NumbersAsBits.{Bits, length-bytes_of, bits_of_bytes-bytes_of}
use Rattle.bit_writer.specs.declared.Pen.{Pen}
use Rattle.bit_writer.specs.PenWrites.{State, ink_bit, ink, is_pen, inked, fresh, Writes}

-- ---- pens

pub record Good (p : Pen) : Type 0 where
  pub few : p.held < 8
  pub low : p.bits < 2 ^ p.held

pub good-pen : (p : Pen) → Good p → is_pen p ≡ true
unfolding is_pen
good-pen p h = rw (lt-ltb _ _ h.few) (lt-ltb _ _ h.low)

pub pen-good : (p : Pen) → is_pen p ≡ true → Good p
unfolding is_pen
pen-good p e = go (ltb p.held 8) refl (ltb p.bits (2 ^ p.held)) refl e
  where
    go : (a : Bool) → ltb p.held 8 ≡ a → (b : Bool) → ltb p.bits (2 ^ p.held) ≡ b → (a && b) ≡ true → Good p
    go true f true g e = record { few = ltb-true _ _ f; low = ltb-true _ _ g }
    go true f false g e = absurd (let z : ◌≡◌ {A = ℕ} 0 1 = cc in omega arith)
    go false f b g e = absurd (let z : ◌≡◌ {A = ℕ} 0 1 = cc in omega arith)

pub many_no_pen : (p : Pen) → 8 ≤ p.held → is_pen p ≡ false
unfolding is_pen
many_no_pen p h = rw (le-ltb _ _ h)

pub high_no_pen : (p : Pen) → p.held < 8 → 2 ^ p.held ≤ p.bits → is_pen p ≡ false
unfolding is_pen
high_no_pen p f h = rw (lt-ltb _ _ f) (le-ltb _ _ h)

-- ---- one bit: past the end, within the byte being filled, or its last

module _ (b : ℕ) (p : Pen) (s : List ℕ) where
  bit-out : length s ≤ p.byte → ink_bit b p s ≡ record { pen = p; bytes = s }
  unfolding ink_bit
  bit-out l = rw (le-ltb _ _ l)

  bit-few : p.byte < length s → p.held < 7 → ink_bit b p s ≡ record { pen = record { byte = p.byte; held = p.held + 1; bits = p.bits * 2 + b }; bytes = s }
  unfolding ink_bit
  bit-few l h = rw (lt-ltb _ _ l, lt-ltb _ _ h)

  bit-full : p.byte < length s → 7 ≤ p.held → ink_bit b p s ≡ record { pen = record { byte = p.byte + 1; held = 0; bits = 0 }; bytes = set s p.byte (p.bits * 2 + b) }
  unfolding ink_bit
  bit-full l h = rw (lt-ltb _ _ l, le-ltb _ _ h)

  -- what holds in each of the three cases holds after the bit
  bit_any : (P : State → Type 0) → P (record { pen = p; bytes = s })
      → (p.held < 7 → P (record { pen = record { byte = p.byte; held = p.held + 1; bits = p.bits * 2 + b }; bytes = s }))
      → P (record { pen = record { byte = p.byte + 1; held = 0; bits = 0 }; bytes = set s p.byte (p.bits * 2 + b) })
      → P (ink_bit b p s)
  bit_any P out few full = go (ltb p.byte (length s)) refl (ltb p.held 7) refl
    where
      go : (x : Bool) → ltb p.byte (length s) ≡ x → (y : Bool) → ltb p.held 7 ≡ y → P (ink_bit b p s)
      go true e true f = rw (bit-few (ltb-true _ _ e) (ltb-true _ _ f)) (few (ltb-true _ _ f))
      go true e false f = rw (bit-full (ltb-true _ _ e) (ltb-false _ _ f)) full
      go false e y f = rw (bit-out (ltb-false _ _ e)) out

bit-good : (b : ℕ) (p : Pen) (s : List ℕ) → b < 2 → Good p → Good (ink_bit b p s).pen
bit-good b p s h g =
    bit_any b p s (λ x. Good x.pen) g
    (λ l. record { few = omega arith; low = rw add-one (omega (arith, g.low)) })
    (record { few = omega arith; low = omega arith })

bit_length : (b : ℕ) (p : Pen) (s : List ℕ) → length (ink_bit b p s).bytes ≡ length s
bit_length b p s = bit_any b p s (λ x. length x.bytes ≡ length s) refl (λ l. refl) (length-set s p.byte (p.bits * 2 + b))

-- ---- bits in a row

pub ink_append : (xs bs : List ℕ) (p : Pen) (s : List ℕ) → ink (xs ++ bs) p s ≡ ink bs (ink xs p s).pen (ink xs p s).bytes
unfolding ink
ink_append [] bs p s = refl
ink_append (x ∷ xs) bs p s = ink_append xs bs (ink_bit x p s).pen (ink_bit x p s).bytes

pub ink-good : (bs : List ℕ) (p : Pen) (s : List ℕ) → Bits bs → Good p → Good (ink bs p s).pen
unfolding ink
ink-good [] p s h g = g
ink-good (b ∷ bs) p s h g = ink-good bs (ink_bit b p s).pen (ink_bit b p s).bytes h.1 (bit-good b p s h.0 g)

pub ink-length : (bs : List ℕ) (p : Pen) (s : List ℕ) → length (ink bs p s).bytes ≡ length s
unfolding ink
ink-length [] p s = refl
ink-length (b ∷ bs) p s = ink-length bs (ink_bit b p s).pen (ink_bit b p s).bytes ∙ bit_length b p s

-- more bits after a state
abbrev ink-after : List ℕ → State → State
ink-after bs x = ink bs x.pen x.bytes

-- past the end
pub ink-out : (bs : List ℕ) (p : Pen) (s : List ℕ) → length s ≤ p.byte → ink bs p s ≡ record { pen = p; bytes = s }
unfolding ink
ink-out [] p s l = refl
ink-out (b ∷ bs) p s l = ap (ink-after bs) (bit-out b p s l) ∙ ink-out bs p s l

-- within the byte being filled
pub ink-few : (bs : List ℕ) (p : Pen) (s : List ℕ) → p.byte < length s → p.held + length bs < 8
    → ink bs p s ≡ record { pen = record { byte = p.byte; held = p.held + length bs; bits = spelt p.bits bs }; bytes = s }
unfolding ink spelt
ink-few [] p s l h = ap (λ (k : ℕ). record { pen = record { byte = p.byte; held = k; bits = p.bits }; bytes = s }) (sym (add-zero p.held))
ink-few (b ∷ bs) p s l h =
    ap (ink-after bs) (bit-few b p s l (omega arith)) ∙ ink-few bs (record { byte = p.byte; held = p.held + 1; bits = p.bits * 2 + b }) s l (omega arith)
    ∙ ap (λ (k : ℕ). record { pen = record { byte = p.byte; held = k; bits = spelt (p.bits * 2 + b) bs }; bytes = s })
    (let e : p.held + 1 + length bs ≡ p.held + suc (length bs) = omega arith in e)

-- up to its end
pub ink-byte : (bs : List ℕ) (p : Pen) (s : List ℕ) → p.byte < length s → 0 < length bs → p.held + length bs ≡ 8
    → ink bs p s ≡ record { pen = record { byte = p.byte + 1; held = 0; bits = 0 }; bytes = set s p.byte (spelt p.bits bs) }
unfolding ink spelt
ink-byte [] p s l n h = absurd (omega arith)
ink-byte (b ∷ []) p s l n h = bit-full b p s l (omega arith)
ink-byte (b ∷ c ∷ bs) p s l n h =
    ap (ink-after (c ∷ bs)) (bit-few b p s l (omega arith))
    ∙ ink-byte (c ∷ bs) (record { byte = p.byte; held = p.held + 1; bits = p.bits * 2 + b }) s l (omega arith) (omega arith)

-- whole bytes
ink-bytes : (m : ℕ) (bs : List ℕ) (k : ℕ) (s : List ℕ) → length bs ≡ 8 * m → k + m ≤ length s
    → ink bs (record { byte = k; held = 0; bits = 0 }) s ≡ record { pen = record { byte = k + m; held = 0; bits = 0 }; bytes = sets s k (bytes_of m bs) }
unfolding ink bytes_of
ink-bytes zero [] k s e l = ap (λ (i : ℕ). record { pen = record { byte = i; held = 0; bits = 0 }; bytes = s }) (sym (add-zero k))
ink-bytes zero (b ∷ bs) k s e l = absurd (omega arith)
ink-bytes (suc m) bs k s e l =
    let p : Pen = record { byte = k; held = 0; bits = 0 } in
    let n : length (take 8 bs) ≡ 8 = length-take-le 8 bs (omega arith) in
    let t : List ℕ = set s k (spelt 0 (take 8 bs)) in
    ap (λ x. ink x p s) (sym (take-append-drop 8 bs)) ∙ ink_append (take 8 bs) (drop 8 bs) p s
    ∙ ap (ink-after (drop 8 bs)) (ink-byte (take 8 bs) p s (omega arith) (omega arith) (omega arith))
    ∙ ap (λ (i : ℕ). ink (drop 8 bs) (record { byte = i; held = 0; bits = 0 }) t) (add-one k)
    ∙ ink-bytes m (drop 8 bs) (suc k) t (omega (arith, length-drop 8 bs)) (omega (arith, length-set s k (spelt 0 (take 8 bs))))
    ∙ ap (λ (i : ℕ). record { pen = record { byte = i; held = 0; bits = 0 }; bytes = sets t (suc k) (bytes_of m (drop 8 bs)) })
    (let f : suc k + m ≡ k + suc m = omega arith in f)

-- ---- with the test of the pen

pub inked_is : (bs : List ℕ) (p : Pen) (s : List ℕ) → Good p → inked bs p s ≡ ink bs p s
unfolding inked
inked_is bs p s g = rw (good-pen p g)

pub inked-none : (bs : List ℕ) (p : Pen) (s : List ℕ) → is_pen p ≡ false → inked bs p s ≡ record { pen = p; bytes = s }
unfolding inked
inked-none bs p s e = rw e

pub inked-good : (bs : List ℕ) (p : Pen) (s : List ℕ) {q : Pen} {t : List ℕ} → Bits bs → Good p → Writes bs p s q t → Good q
inked-good bs p s h g e = subst Good (sym (ap (λ (x : State). x.pen) (e ∙ inked_is bs p s g))) (ink-good bs p s h g)

pub inked_nothing : (p : Pen) (s : List ℕ) → inked [] p s ≡ record { pen = p; bytes = s }
unfolding inked ink
inked_nothing p s = go (is_pen p)
  where
    go : (b : Bool) → ◌≡◌ {A = State} (cond b (record { pen = p; bytes = s }) (record { pen = p; bytes = s })) (record { pen = p; bytes = s })
    go true = refl
    go false = refl

pub inked-length : (bs : List ℕ) (p : Pen) (s : List ℕ) → length (inked bs p s).bytes ≡ length s
unfolding inked
inked-length bs p s = go (is_pen p)
  where
    go : (b : Bool) → length (cond b (ink bs p s) (record { pen = p; bytes = s })).bytes ≡ length s
    go true = ink-length bs p s
    go false = refl

-- more bits after a state, with the test of the pen
abbrev inked-after : List ℕ → State → State
inked-after bs x = inked bs x.pen x.bytes

pub inked_append : (xs bs : List ℕ) (p : Pen) (s : List ℕ) → Bits xs → inked (xs ++ bs) p s ≡ inked bs (inked xs p s).pen (inked xs p s).bytes
inked_append xs bs p s h = go (is_pen p) refl
  where
    go : (b : Bool) → is_pen p ≡ b → inked (xs ++ bs) p s ≡ inked bs (inked xs p s).pen (inked xs p s).bytes
    go true e =
        let g : Good p = pen-good p e in
        inked_is (xs ++ bs) p s g ∙ ink_append xs bs p s ∙ sym (inked_is bs (ink xs p s).pen (ink xs p s).bytes (ink-good xs p s h g))
        ∙ ap (inked-after bs) (sym (inked_is xs p s g))
    go false e = inked-none (xs ++ bs) p s e ∙ sym (inked-none bs p s e) ∙ ap (inked-after bs) (sym (inked-none xs p s e))

-- ---- from the start

pub fresh-good : Good fresh
unfolding fresh
fresh-good = record { few = omega arith; low = omega arith }

pub inked-whole : (bs s : List ℕ) (m : ℕ) → length bs ≡ 8 * m → m ≤ length s
    → inked bs fresh s ≡ record { pen = record { byte = m; held = 0; bits = 0 }; bytes = bytes_of m bs ++ drop m s }
unfolding fresh
inked-whole bs s m e l =
    inked_is bs fresh s fresh-good ∙ ink-bytes m bs 0 s e (omega arith)
    ∙ ap₂ (λ (i : ℕ) (t : List ℕ). record { pen = record { byte = i; held = 0; bits = 0 }; bytes = t }) (zero-add m)
    (sets-eq (bytes_of m bs) s 0 (omega (arith, length-bytes_of m bs)) ∙ ap (λ (i : ℕ). bytes_of m bs ++ drop i s) (zero-add (length (bytes_of m bs)) ∙ length-bytes_of m bs))

-- the bytes before the pen then hold exactly these bits
pub inked-before : (bs s : List ℕ) (m : ℕ) → Bits bs → length bs ≡ 8 * m → m ≤ length s → {p : Pen} {t : List ℕ}
    → Writes bs fresh s p t → bits_of_bytes (take p.byte t) ≡ bs
inked-before bs s m b e l w =
    ap (λ (x : State). bits_of_bytes (take x.pen.byte x.bytes)) (w ∙ inked-whole bs s m e l)
    ∙ ap bits_of_bytes (take_at (bytes_of m bs) (drop m s) m (length-bytes_of m bs)) ∙ bits_of_bytes-bytes_of m bs b e

-- and fewer than eight bits more, which the pen holds
pub inked-part : (bs cs s : List ℕ) (m : ℕ) → length bs ≡ 8 * m → length cs < 8 → m < length s
    → inked (bs ++ cs) fresh s ≡ record { pen = record { byte = m; held = length cs; bits = spelt 0 cs }; bytes = bytes_of m bs ++ drop m s }
unfolding fresh
inked-part bs cs s m e h l =
    let t : List ℕ = bytes_of m bs ++ drop m s in
    inked_is (bs ++ cs) fresh s fresh-good ∙ ink_append bs cs fresh s ∙ ap (ink-after cs) (sym (inked_is bs fresh s fresh-good) ∙ inked-whole bs s m e (omega arith))
    ∙ ink-few cs (record { byte = m; held = 0; bits = 0 }) t (rw length-append (omega (arith, length-bytes_of m bs, length-drop m s))) (omega arith)
    ∙ ap (λ (k : ℕ). record { pen = record { byte = m; held = k; bits = spelt 0 cs }; bytes = t }) (zero-add (length cs))
