-- Prefix rules on bits, for every reader: what a reader answers depends only on the bits that it has read.
use Prim.Native.Nat.{ℕ, zero, suc, ◌+◌, ◌*◌, ◌≤◌, ◌<◌, zero-le, suc-le-suc}
use native.Mathlib.Nat.{add-zero, zero-add, suc-add}
use native.Mathlib.Omega.{arith}
use mathlib.Core.Path.{◌≡◌, refl, ap, sym, ◌∙◌, subst}
use mathlib.Core.List.{List, [], ◌∷◌, ◌++◌}
use lib.ListN.{length, take, drop, length-drop, length-take, take-append-drop}
use lib.Seq.{take-take, take-append-le, take-nil}
use Rattle.reading.specs.Readers.{Question, next_bits, next_zeros, Ask, done, stop, ask, seen, Reply, found, cut, bits_from, zeros_from, reply, RunResult, got, refused, short, follow, run}

-- the position where a run ended, with a value or a refusal
abbrev pub Ends : {A : Type 0} → RunResult A → ℕ → Type 0
Ends (got a i) j = i ≡ j
Ends (refused n i) j = i ≡ j
Ends short j = ⊥

-- The answer ends w bits on, and every list that agrees on those w bits gives the same answer.
abbrev Local : (ℕ → List ℕ → Reply) → ℕ → List ℕ → ℕ → ℕ → Type 0
Local f i r v j = (w : ℕ) × (i + w ≡ j) × (w ≤ length r) × ((r' : List ℕ) → take w r' ≡ take w r → f i r' ≡ found v j)

never : {X : Type 0} {v j : ℕ} → cut ≡ found v j → X
never e = absurd (let z : ◌≡◌ {A = ℕ} 0 1 = cc in omega arith)

no_cons : {X : Type 0} {b : ℕ} {l : List ℕ} → ◌≡◌ {A = List ℕ} [] (b ∷ l) → X
no_cons e = absurd (let z : ◌≡◌ {A = ℕ} 0 1 = cc in omega arith)

-- a list that agrees with b ∷ r on the first w + 1 bits is b and a rest that agrees with r on w
starts : (b : ℕ) (r : List ℕ) (w : ℕ) (r' : List ℕ) → take (suc w) r' ≡ b ∷ take w r → (t : List ℕ) × (r' ≡ b ∷ t) × (take w t ≡ take w r)
starts b r w [] e = no_cons e
starts b r w (c ∷ t) e = (t, cc, cc)

-- one more bit in front
more : (f g : ℕ → List ℕ → Reply) (i b : ℕ) (r : List ℕ) {v j : ℕ} → ((t : List ℕ) → g i (b ∷ t) ≡ f (suc i) t) → Local f (suc i) r v j → Local g i (b ∷ r) v j
more f g i b r e (w, ends, le, law) =
    (suc w, omega arith, suc-le-suc le, λ r' h. let q = starts b r w r' h in ap (g i) q.1 ∙ e q.0 ∙ law q.0 q.2)

bits_local : (n acc i : ℕ) (r : List ℕ) {v j : ℕ} → bits_from n acc i r ≡ found v j → Local (bits_from n acc) i r v j
unfolding bits_from
bits_local zero acc i r {v} {j} e = (0, add-zero i ∙ (cc), zero-le, λ r' h. e)
bits_local (suc n) acc i [] e = never e
bits_local (suc n) acc i (b ∷ r) e = more (bits_from n (acc * 2 + b)) (bits_from (suc n) acc) i b r (λ t. refl) (bits_local n (acc * 2 + b) (suc i) r e)

zeros_local : (z i : ℕ) (r : List ℕ) {v j : ℕ} → zeros_from z i r ≡ found v j → Local (zeros_from z) i r v j
unfolding zeros_from
zeros_local z i [] e = never e
zeros_local z i (zero ∷ r) e = more (zeros_from (suc z)) (zeros_from z) i zero r (λ t. refl) (zeros_local (suc z) (suc i) r e)
zeros_local z i (suc b ∷ r) {v} {j} e =
    (1, native.Mathlib.Numerals.add-one i ∙ (cc), suc-le-suc zero-le, λ r' h. let q = starts (suc b) r 0 r' h in ap (zeros_from z i) q.1 ∙ e)

-- The same for the whole input: f ends between i and the input's end, and depends only on the bits before its end.
abbrev Settled : {X : Type 0} → (List ℕ → X) → ℕ → List ℕ → ℕ → Type 0
Settled f i s j = (i ≤ j) × (j ≤ length s) × ((s' : List ℕ) → take j s' ≡ take j s → f s' ≡ f s)

drop-take : (i w : ℕ) (l : List ℕ) → drop i (take (i + w) l) ≡ take w (drop i l)
drop-take zero w l = rw zero-add
drop-take (suc i) w [] = rw (take-nil (suc i + w), take-nil w)
drop-take (suc i) w (x ∷ l) = rw suc-add (drop-take i w l)

whole : (f : ℕ → List ℕ → Reply) (s : List ℕ) (i : ℕ) {v j : ℕ} → i ≤ length s → f i (drop i s) ≡ found v j → Local f i (drop i s) v j → Settled (λ t. f i (drop i t)) i s j
whole f s i {v} {j} h e (w, ends, le, law) = (
  omega arith,
  omega (arith, length-drop i s),
  λ s' q. law (drop i s') (sym (drop-take i w s') ∙ ap (drop i) (ap (λ n. take n s') ends ∙ q ∙ ap (λ n. take n s) (sym ends)) ∙ drop-take i w s) ∙ sym e,
)

reply-settled : (q : Question) (s : List ℕ) (i : ℕ) {v j : ℕ} → i ≤ length s → reply q s i ≡ found v j → Settled (λ t. reply q t i) i s j
unfolding reply
reply-settled (next_bits n) s i h e = whole (bits_from n zero) s i h e (bits_local n zero i (drop i s) e)
reply-settled next_zeros s i h e = whole (zeros_from zero) s i h e (zeros_local zero i (drop i s) e)

shorter : {m j : ℕ} (s s' : List ℕ) → m ≤ j → take j s' ≡ take j s → take m s' ≡ take m s
shorter {m} {j} s s' h e = sym (take-take m j s' h) ∙ ap (take m) e ∙ take-take m j s h

ask-settled : {A : Type 0} (q : Question) (k : ℕ → Ask A) (s : List ℕ) (i : ℕ) {j : ℕ} → i ≤ length s
    → ((v m : ℕ) → m ≤ length s → Ends (run (k v) s m) j → Settled (λ t. run (k v) t m) m s j)
    → (x : Reply) → reply q s i ≡ x → Ends (follow x (λ v m. run (k v) s m)) j → Settled (λ t. run (ask q k) t i) i s j
unfolding run follow
ask-settled q k s i h ih (found v m) eq e =
    let a = reply-settled q s i h eq in
    let b = ih v m a.1 e in (
      omega arith,
      b.1,
      λ s' t.
          ap (λ y. follow y (λ v m. run (k v) s' m)) (a.2 s' (shorter s s' b.0 t) ∙ eq) ∙ b.2 s' t
          ∙ ap (λ y. follow y (λ v m. run (k v) s m)) (sym eq),
    )
ask-settled q k s i h ih cut eq e = absurd e

-- THE LAW: a run ends at or after its start, within the input, and an input that agrees up to there has the same run.
pub settled : {A : Type 0} (p : Ask A) (s : List ℕ) (i : ℕ) {j : ℕ} → i ≤ length s → Ends (run p s i) j → Settled (λ t. run p t i) i s j
unfolding run
settled (done a) s i {j} h e = (omega arith, omega arith, λ s' q. refl)
settled (stop n) s i {j} h e = (omega arith, omega arith, λ s' q. refl)
settled (ask q k) s i {j} h e = ask-settled q k s i h (λ v m h e. settled (k v) s m h e) (reply q s i) refl e
settled (seen k) s i {j} h e =
    let q = settled (k (take i s)) s i h e in
    (q.0, q.1, λ s' t. ap (λ l. run (k l) s' i) (shorter s s' q.0 t) ∙ q.2 s' t)

module _ {A : Type 0} (p : Ask A) (s : List ℕ) (i : ℕ) (h : i ≤ length s) where
  -- (a), (c): a run that ended is the same whatever follows
  pub run_append : (j : ℕ) (t : List ℕ) → Ends (run p s i) j → run p (s ++ t) i ≡ run p s i
  run_append j t e = (settled p s i h e).2 (s ++ t) (take-append-le j s t (settled p s i h e).1)

  -- (b): the bits up to where it ended suffice
  pub run_take : (j m : ℕ) → j ≤ m → Ends (run p s i) j → run p (take m s) i ≡ run p s i
  run_take j m l e = (settled p s i h e).2 (take m s) (take-take j m s l)

-- a run ends at one position
one_end : {A : Type 0} (x : RunResult A) (j k : ℕ) → Ends x j → Ends x k → j ≡ k
one_end (got a i) j k e f = cc
one_end (refused n i) j k e f = cc
one_end short j k e f = absurd e

module _ {A : Type 0} (p : Ask A) (s : List ℕ) (i m j : ℕ) (h : i ≤ length s) (l : i ≤ m) (g : m < j) (e : Ends (run p s i) j) where
  within : i ≤ length (take m s)
  within = rw length-take (omega arith)

  no_end : (k : ℕ) → Ends (run p (take m s) i) k → ⊥
  no_end k d =
      let same = ap (λ l. run p l i) (sym (take-append-drop m s)) ∙ run_append p (take m s) i within k (drop m s) d in
      let one = one_end (run p (take m s) i) j k (subst (λ x. Ends x j) same e) d in
      let le = (settled p (take m s) i within d).1 in
      omega (arith, length-take m s)

  ending : (x : RunResult A) → run p (take m s) i ≡ x → run p (take m s) i ≡ short
  ending (got a k) q = absurd (no_end k (subst (λ x. Ends x k) (sym q) refl))
  ending (refused n k) q = absurd (no_end k (subst (λ x. Ends x k) (sym q) refl))
  ending short q = q

  -- (b): fewer bits are too short
  pub run_take-short : run p (take m s) i ≡ short
  run_take-short = ending (run p (take m s) i) refl
