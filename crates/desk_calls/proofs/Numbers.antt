-- With which numbers each call answers.
use Prim.Native.Nat.{ℕ, ◌≤◌}
use mathlib.Core.Path.{◌≡◌, subst}
use mathlib.Core.List.{List, [], ◌∷◌}
use mathlib.Core.Bool.{Bool, true, false}
use mathlib.Core.Logic.{inl, inr}
use native.Mathlib.Omega.{arith}
use types.Run.{OneOf, hit}
use lib.ListN.{length}
use lib.Dec.{leb, eqb}
use Rattle.base_choices.specs.Choices.{pick, both}
use Rattle.glow_rows.specs.Entry.{Rows}
use Rattle.glow_trees.specs.Rows.{items_in}
use Rattle.desk_crosspoints.specs.Figures.{figures_fit, cells_of}
use Rattle.desk_crosspoints.specs.Crosspoints.{Cells, clear, legal}
use Rattle.desk_crosspoints.specs.Desk.{Desk, with_cells, path_fits, Answer, answer, desk_opened}
use Rattle.desk_requests.specs.Request.{Request, result_of, checks, judged, asked, requested}
use Rattle.desk_requests.proofs.Checks.{first_by}
use Rattle.desk_requests.proofs.Claims.{request-legal, request-not-setup}
use Rattle.glow_paths.specs.Paths.{same}
use Rattle.desk_connections.specs.Connections.{Ask}
use Rattle.desk_connections.proofs.Operations.{Operations}
use Rattle.desk_calls.specs.Calls.{request_of, answered, served, handled, laid, unserved, called}
use Rattle.desk_setup.specs.Ready.{is_ready}
use Rattle.desk_calls.specs.Numbers.{open_numbers, request_numbers, call_numbers, answer_numbers, AllOneOf}
use Rattle.desk_calls.proofs.Claims.{Lawful, answered-keeps}

-- "request": 0, 1, 41 to 44
module _ (d : Desk) (req : Request) where
  told-numbers : OneOf request_numbers (judged d req)
  unfolding judged checks
  told-numbers =
      first_by (OneOf request_numbers) (checks d req) (hit request_numbers 0 tt)
      (λ e. hit request_numbers 41 tt, (λ e. hit request_numbers 42 tt, (λ e. hit request_numbers 43 tt, (λ e. hit request_numbers 44 tt, tt))))

  pub request-numbers : OneOf request_numbers (requested d req).number
  unfolding requested asked
  request-numbers = go (both (legal d.figures d.crosspoints) (leb req.operation 2)) (eqb (judged d req) 0)
    where
      go : (u v : Bool)
          → OneOf request_numbers
          (pick u (pick v (answer 0 (result_of d req)) (answer (judged d req) d.crosspoints)) (answer 1 d.crosspoints)).number
      go false v = hit request_numbers 1 tt
      go true true = hit request_numbers 0 tt
      go true false = told-numbers

-- a number of those without 1
pub few-numbers : (n : ℕ) → OneOf request_numbers n → (n ≡ 1 → ⊥) → OneOf answer_numbers n
few-numbers n (inl e) d = inl e
few-numbers n (inr (inl e)) d = absurd (d e)
few-numbers n (inr (inr r)) d = inr (inr r)

number_small : (n : ℕ) → OneOf request_numbers n → n ≤ 255
number_small n (inl e) = omega (arith, e)
number_small n (inr (inl e)) = omega (arith, e)
number_small n (inr (inr (inl e))) = omega (arith, e)
number_small n (inr (inr (inr (inl e)))) = omega (arith, e)
number_small n (inr (inr (inr (inr (inl e))))) = omega (arith, e)
number_small n (inr (inr (inr (inr (inr e))))) = omega (arith, e)

module _ (d : Desk) where
  -- whatever a connection asks, its answer is a byte
  pub answered-small : (a : Ask) (x : ℕ) (after : Cells) → answered d a ≡ answer x after → x ≤ 255
  unfolding answered
  answered-small a x after e = subst (λ (z : Answer). z.number ≤ 255) e (go (same a.matrix d.path))
    where
      go : (u : Bool) → (pick u (requested d (request_of a)) (answer 40 d.crosspoints)).number ≤ 255
      go true = number_small _ (request-numbers d (request_of a))
      go false = omega arith

  -- the answer to a connection: 0, 40 to 44
  pub answered-numbers : (a : Ask) → Lawful d → a.operation ≤ 2 → OneOf answer_numbers (answered d a).number
  unfolding answered
  answered-numbers a h o = go (same a.matrix d.path)
    where
      go : (u : Bool) → OneOf answer_numbers (pick u (requested d (request_of a)) (answer 40 d.crosspoints)).number
      go true = few-numbers _ (request-numbers d (request_of a)) (request-not-setup d (request_of a) h o)
      go false = hit answer_numbers 40 tt

  -- "open": 0, 1, 45
  pub open-numbers : (mode : ℕ) → OneOf open_numbers (desk_opened d mode).number
  unfolding desk_opened
  open-numbers mode =
      go (figures_fit d.figures) (eqb (length d.crosspoints) (cells_of d.figures)) (both (eqb mode 0) (path_fits d.path))
    where
      go : (a b c : Bool)
          → OneOf open_numbers
          (pick a (pick b (pick c (answer 0 (clear (cells_of d.figures))) (answer 45 d.crosspoints)) (answer 1 d.crosspoints))
          (answer 45 d.crosspoints)).number
      go true true true = hit open_numbers 0 tt
      go true true false = hit open_numbers 45 tt
      go true false c = hit open_numbers 1 tt
      go false b c = hit open_numbers 45 tt

  -- "call": 0 or 1 (the answers: `call-answers`, crates/turns/proofs/Numbers.antt)
  pub call-numbers : (root : ℕ) (rows : Rows) (n : ℕ) (s : List ℕ) → OneOf call_numbers (called d root rows n s).number
  unfolding called laid
  call-numbers root rows n s = go (is_ready d root rows n s)
    where
      go : (u : Bool) → OneOf call_numbers (pick u (laid (handled d (items_in s rows n))) (unserved d.crosspoints)).number
      go true = hit call_numbers 0 tt
      go false = hit call_numbers 1 tt

-- the answers to a message's connections
pub served-numbers : (d : Desk) (l : List Ask) → Lawful d → Operations l → AllOneOf answer_numbers (served d l).answers
unfolding served
served-numbers d [] h o = tt
served-numbers d (a ∷ later) h o =
    let k = answered-keeps Lawful (λ x r z. request-legal x r z) d a h in
    (answered-numbers d a h o.0, served-numbers (with_cells d (answered d a).cells) later k o.1)
