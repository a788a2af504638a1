-- Numbers as bits and bits as bytes, most significant first: what a writer of a bit format puts out.
use Rattle.std.specs.Prelude.{ℕ, zero, suc, ◌+◌, ◌*◌, ◌/◌, ◌%◌, ◌^◌, List, [], ◌∷◌, ◌++◌, length, take, drop, replicate}

-- the low w bits of a number
unfoldable pub bits_of : ℕ → ℕ → List ℕ
bits_of zero v = []
bits_of (suc w) v = v / 2 ^ w % 2 ∷ bits_of w v

-- q zeros, then the one that ends them
unfoldable pub unary : ℕ → List ℕ
unary q = replicate q 0 ++ 1 ∷ []

-- the bits of each element, one after the other
unfoldable pub row : {A : Type 0} → (A → List ℕ) → List A → List ℕ
row f [] = []
row f (x ∷ xs) = f x ++ row f xs

-- the number that bits spell, after those that make the number `acc`
unfoldable pub spelt : ℕ → List ℕ → ℕ
spelt acc [] = acc
spelt acc (b ∷ s) = spelt (acc * 2 + b) s

-- the first n bytes of some bits
unfoldable pub bytes_of : ℕ → List ℕ → List ℕ
bytes_of zero s = []
bytes_of (suc n) s = spelt 0 (take 8 s) ∷ bytes_of n (drop 8 s)

-- all whole bytes of some bits
unfoldable pub packed : List ℕ → List ℕ
packed s = bytes_of (length s / 8) s
