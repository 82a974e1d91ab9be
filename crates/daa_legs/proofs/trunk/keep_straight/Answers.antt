use Rattle.std.proofs.Common.{◌≡◌, ◌≤◌, ℕ, arith}

all : (k from upto : ℕ) → (from ≤ upto → k ≤ upto) → from ≤ upto → upto ≤ k → k ≡ upto
all k from upto a o b = let l = a o in omega (arith, l, b)
