-- Each answer's words, those that say nothing among them, and what 1 leaves, by computation.
use Rattle.std.specs.Prelude.{ℕ, ◌≡◌, refl, List, [], ◌∷◌, map, Some, None}
use Rattle.glow_reader.specs.declared.Answer.{Answer}
use Rattle.glow_reader.specs.declared.Answer.TheVariants.{Setup, Refused, Room, Read}
use Rattle.glow_c.specs.Calls.{call, words_of, calls, writing, length_word, write_calls}

abbrev three : ℕ → ℕ → ℕ → List ℕ
three place count root = place ∷ count ∷ root ∷ []

-- Of a refusal the place, after 38 the count, after 0 the count and Root's kind; the other words are 0.
pub v-words : map (λ (a : Answer). words_of a (three 7 8 9)) (Setup ∷ Refused 30 0 ∷ Refused 34 12 ∷ Room 257 ∷ Read 0 0 ∷ Read 0 5 ∷ Read 3 2 ∷ [])
    ≡ three 7 8 9 ∷ three 0 0 0 ∷ three 12 0 0 ∷ three 0 257 0 ∷ three 0 0 0 ∷ three 0 5 0 ∷ three 0 2 3 ∷ []
v-words = refl

-- The writer's word: the length, and 0 after 46.
pub v-lengths : map length_word (Some 0 ∷ Some 4 ∷ None ∷ []) ≡ (0 ∷ []) ∷ (4 ∷ []) ∷ (0 ∷ []) ∷ []
v-lengths = refl

-- 1 for an answer of other than three words, or of other than one to write; "1 leaves everything as it was".
pub v-setup : map (λ (a : List ℕ). calls (0x60 ∷ []) [] a) ([] ∷ (7 ∷ 8 ∷ []) ∷ (7 ∷ 8 ∷ 9 ∷ 9 ∷ []) ∷ [])
    ≡ call 1 [] [] ∷ call 1 [] (7 ∷ 8 ∷ []) ∷ call 1 [] (7 ∷ 8 ∷ 9 ∷ 9 ∷ []) ∷ []
unfolding calls
v-setup = refl

pub v-setup-writing : map (λ (a : List ℕ). write_calls [] 0 0 [] (1 ∷ 2 ∷ []) a) ([] ∷ (7 ∷ 8 ∷ []) ∷ [])
    ≡ writing 1 (1 ∷ 2 ∷ []) [] ∷ writing 1 (1 ∷ 2 ∷ []) (7 ∷ 8 ∷ []) ∷ []
unfolding write_calls
v-setup-writing = refl
