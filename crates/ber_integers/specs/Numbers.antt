-- With which numbers the readers and writers of values answer: the rows of document 01's "Numbers answered".
use Rattle.std.specs.Prelude.{ℕ, List, [], ◌∷◌}

-- octets judged: 0 done, "30 BER: bad tag, length or value octets"
abbrev pub octet_numbers : List ℕ
octet_numbers = 0 ∷ 30 ∷ []

-- something put into an output: 0 done, "46 OUT: output too short, or a value .. that the reader refuses"
abbrev pub put_numbers : List ℕ
put_numbers = 0 ∷ 46 ∷ []
