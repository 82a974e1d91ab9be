-- How the levels of a group of candidates are packed in a word of 64 bits.
use Rattle.std.specs.Prelude.{ℕ, ◌+◌, ◌*◌, ◌/◌, ◌%◌, ◌^◌}
use Rattle.std.specs.Int.{bit_at}

-- how many candidates a group has
abbrev pub group_size : ℕ
group_size = 12

-- how many bits a candidate of the group has: one that says that it is there, and one for each level
abbrev pub place_width : ℕ
place_width = 5

-- 1 where the word has a candidate at the index of its group, else 0
abbrev pub presence_in : ℕ → ℕ → ℕ
presence_in word index = bit_at word (place_width * index)

-- the mask of the levels of the candidate at the index: its bit l - 1 means level l
abbrev pub mask_in : ℕ → ℕ → ℕ
mask_in word index = word / 2 ^ (place_width * index + 1) % 2 ^ 4
