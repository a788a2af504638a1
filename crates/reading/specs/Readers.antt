-- A reader is a tree of questions to the input; here are the trees, and their runs on a list of bits. A reader can only
-- ask a question, look at the bits that it has read, finish, or refuse. So its answer depends on the bits that it has
-- read and on nothing else, whatever the format (proofs/BitPrefixes.antt).
use Rattle.std.specs.Prelude.{ℕ, zero, suc, ◌+◌, ◌*◌, Bool, if◌then◌else◌, List, [], ◌∷◌, ◌++◌, take, drop}

-- The next n bits as a number, or how many zeros come before the next one bit. That one bit is read too.
pub data Question : Type 0 where
  next_bits : ℕ → Question
  next_zeros : Question

-- `stop` refuses, with a number. `seen` hands over all bits that were read so far.
pub data Ask (A : Type 0) : Type 0 where
  done : A → Ask A
  stop : ℕ → Ask A
  ask : Question → (ℕ → Ask A) → Ask A
  seen : (List ℕ → Ask A) → Ask A

-- ---- how readers are written

infixl 10 ◌>>=◌
infixl 10 ◌>>◌
-- one reader, then another that may use the first one's value
unfoldable pub ◌>>=◌ : {A B : Type 0} → Ask A → (A → Ask B) → Ask B
done a >>= k = k a
stop n >>= k = stop n
ask q f >>= k = ask q (λ x. f x >>= k)
seen f >>= k = seen (λ x. f x >>= k)

abbrev pub ◌>>◌ : {A B : Type 0} → Ask A → Ask B → Ask B
p >> q = p >>= (λ _. q)

unfoldable pub bits : ℕ → Ask ℕ
bits n = ask (next_bits n) done

unfoldable pub zeros : Ask ℕ
zeros = ask next_zeros done

-- all bits that were read so far
unfoldable pub passed : Ask (List ℕ)
passed = seen done

-- go on if the test holds, else refuse with number n
unfoldable pub require : Bool → ℕ → Ask (Unit {0})
require b n = if b then done tt else stop n

-- the same reader n times
unfoldable pub many : {A : Type 0} → ℕ → Ask A → Ask (List A)
many zero p = done []
many (suc n) p = do
  a ← p
  rest ← many n p
  done (a ∷ rest)

-- a reader for each element in turn; the lists that they get, one after the other
unfoldable pub each : {A B : Type 0} → (A → Ask (List B)) → List A → Ask (List B)
each f [] = done []
each f (x ∷ xs) = do
  first ← f x
  rest ← each f xs
  done (first ++ rest)

-- ---- how they run

-- a number and the position after it, or the input ends first
pub data Reply : Type 0 where
  found : ℕ → ℕ → Reply
  cut : Reply

-- n more bits, after those that make the number `acc`; i is the position, and the list is the input from there
unfoldable pub bits_from : ℕ → ℕ → ℕ → List ℕ → Reply
bits_from zero acc i s = found acc i
bits_from (suc n) acc i [] = cut
bits_from (suc n) acc i (b ∷ s) = bits_from n (acc * 2 + b) (suc i) s

-- the zeros up to the next one bit, with z counted already
unfoldable pub zeros_from : ℕ → ℕ → List ℕ → Reply
zeros_from z i [] = cut
zeros_from z i (zero ∷ s) = zeros_from (suc z) (suc i) s
zeros_from z i (suc b ∷ s) = found z (suc i)

unfoldable pub reply : Question → List ℕ → ℕ → Reply
reply (next_bits n) s i = bits_from n zero i (drop i s)
reply next_zeros s i = zeros_from zero i (drop i s)

-- a value and the position where the run ended; a refusal and that position; or the input was too short
pub data RunResult (A : Type 0) : Type 0 where
  got : A → ℕ → RunResult A
  refused : ℕ → ℕ → RunResult A
  short : RunResult A

unfoldable pub follow : {A : Type 0} → Reply → (ℕ → ℕ → RunResult A) → RunResult A
follow (found v j) k = k v j
follow cut k = short

-- the reader's run on a list of bits, from position i
unfoldable pub run : {A : Type 0} → Ask A → List ℕ → ℕ → RunResult A
run (done a) s i = got a i
run (stop n) s i = refused n i
run (ask q k) s i = follow (reply q s i) (λ v j. run (k v) s j)
run (seen k) s i = run (k (take i s)) s i
