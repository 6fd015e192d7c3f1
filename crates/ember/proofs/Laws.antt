-- Laws of the C library, at plain variables.
use Prim.Native.Nat.{ℕ}
use mathlib.Core.Path.{◌≡◌, refl, sym, ap, ◌∙◌}
use mathlib.Core.Bool.{Bool, true, false}
use mathlib.Core.List.{List, [], ◌∷◌, ◌++◌}
use native.Mathlib.Omega.{arith}
use borrow.Author.Tests.{eq-eqb, ne_eqb}
use lib.Dec.{eqb}
use lib.ListN.{length, get_or, set, take}
use Rattle.base_choices.specs.Choices.{both}
use Rattle.glow_rows.specs.Entry.{Rows}
use Rattle.framing_c.specs.Calls.{calls}
use Rattle.desk_crosspoints.specs.declared.Figures.{Figures}
use Rattle.desk_crosspoints.specs.Figures.{size_of}
use Rattle.desk_crosspoints.specs.Crosspoints.{Cells}
use Rattle.desk_crosspoints.specs.Desk.{Desk, desk_at, desk_legal, Answer, answer, desk_opened}
use Rattle.desk_requests.specs.Request.{request, requested}
use Rattle.desk_calls.specs.Calls.{Outcome, called}
use Rattle.turns.specs.declared.After.{After}
use Rattle.turns.specs.Whole.{later_of, gave}
use Rattle.framing_packets.specs.Written.{Outcome as Wrote}
use Rattle.sheet_writer.specs.declared.Answer as written
use Rattle.sheet_writer.specs.declared.Answer.TheVariants as writtens
use Rattle.sheet_writer.specs.Calls.{writes_sheet, outcome_of as wrote_as}
use Rattle.sheet_reader.specs.declared.Sheet.{Sheet}
use Rattle.sheet_reader.specs.declared.Sheet.TheVariants as sheets
use Rattle.sheet_reader.specs.Calls as sheet
use Rattle.sheet_reader.specs.Calls.{sheet_read, outcome_of as read_as}
use Rattle.desk_words.specs.Words.{words_of, figures_at, is_figures}
use Rattle.ember_answers.specs.Answers.{DeskCall, desk_call, counted_put, lengths_fit, next, later_words, answer_put}
use Rattle.ember_answers.proofs.Laws.{set-one, put_one, put-nine}
use Rattle.ember.specs.Calls.{sizes, opens, legals, requests, desk_calls}
use Rattle.ember.specs.Calls.{Turned, turned, turns}
use Rattle.ember.specs.Calls.{SheetPut, sheet_put, measured, sheet_writes, SheetCall, sheet_call, given, sheet_reads}

-- ---- the desk

module _ (fs : List ℕ) {b : Bool} (i : b ≡ is_figures fs) where
  pub size-told : {f : Figures} {n r : ℕ} → b ≡ true → f ≡ figures_at fs → size_of f ≡ n → r ≡ n → sizes fs ≡ r
  unfolding sizes
  size-told y e h q = rw (sym i ∙ y, ← e) (h ∙ sym q)

  pub size-setup : b ≡ false → sizes fs ≡ 0
  unfolding sizes
  size-setup n = rw (sym i ∙ n) refl

module _ (fs path cells : List ℕ) {b : Bool} (i : b ≡ is_figures fs) where
  pub open-called : {f : Figures} (mode : ℕ) {x : Answer} → b ≡ true → f ≡ figures_at fs → desk_opened (desk_at f path cells) mode ≡ x
      → opens fs path mode cells ≡ x
  unfolding opens
  open-called mode y e h = rw (sym i ∙ y, ← e) h

  pub open-setup : (mode : ℕ) → b ≡ false → opens fs path mode cells ≡ answer 1 cells
  unfolding opens
  open-setup mode n = rw (sym i ∙ n) refl

  pub legal-yes : {f : Figures} {t : Bool} → b ≡ true → f ≡ figures_at fs → desk_legal (desk_at f path cells) ≡ t → t ≡ true → legals fs path cells ≡ 1
  unfolding legals
  legal-yes y e h g = rw (sym i ∙ y, ← e, h ∙ g) refl

  pub legal-no : {f : Figures} {t : Bool} → b ≡ true → f ≡ figures_at fs → desk_legal (desk_at f path cells) ≡ t → t ≡ false → legals fs path cells ≡ 0
  unfolding legals
  legal-no y e h g = rw (sym i ∙ y, ← e, h ∙ g) refl

  pub legal-setup : b ≡ false → legals fs path cells ≡ 0
  unfolding legals
  legal-setup n = rw (sym i ∙ n) refl

module _ (fs : List ℕ) (target : ℕ) (sources : List ℕ) (operation : ℕ) (cells : List ℕ) {b : Bool} (i : b ≡ is_figures fs) where
  pub request-called : {f : Figures} {x : Answer} → b ≡ true → f ≡ figures_at fs → requested (desk_at f [] cells) (request target sources operation) ≡ x
      → requests fs target sources operation cells ≡ x
  unfolding requests
  request-called y e h = rw (sym i ∙ y, ← e) h

  pub request-setup : b ≡ false → requests fs target sources operation cells ≡ answer 1 cells
  unfolding requests
  request-setup n = rw (sym i ∙ n) refl

both-no : (b : Bool) → both b false ≡ false
both-no true = refl
both-no false = refl

module _ (fs path : List ℕ) (root : ℕ) (rows : Rows) (n : ℕ) (s lent cells words : List ℕ) where
  pub desk-words : (length words ≡ 1 → ⊥) → desk_calls fs path root rows n s lent cells words ≡ desk_call 1 lent cells words
  unfolding desk_calls
  desk-words h = rw (ne_eqb _ _ h, both-no (is_figures fs)) refl

  pub desk-setup : {b : Bool} → b ≡ is_figures fs → b ≡ false → desk_calls fs path root rows n s lent cells words ≡ desk_call 1 lent cells words
  unfolding desk_calls
  desk-setup i m = rw (sym i ∙ m) refl

  pub desk-called : {b : Bool} {f : Figures} {o : Outcome} {x : DeskCall} → length words ≡ 1 → b ≡ is_figures fs → b ≡ true → f ≡ figures_at fs
      → called (desk_at f path cells) root rows n s ≡ o → counted_put o lent words ≡ x → desk_calls fs path root rows n s lent cells words ≡ x
  unfolding desk_calls
  desk-called {o = o} w i y e h g = rw (sym i ∙ y, eq-eqb _ _ w, ← e, h) (sym (put_one o lent words w) ∙ g)

-- ---- a turn

three_back : (xs : List ℕ) (ys : List ℕ) → length xs ≡ 3 → xs ++ ys ≡ get_or xs 0 0 ∷ get_or xs 1 0 ∷ get_or xs 2 0 ∷ ys
three_back [] ys h = absurd (omega arith)
three_back (x ∷ []) ys h = absurd (omega arith)
three_back (x ∷ y ∷ []) ys h = absurd (omega arith)
three_back (x ∷ y ∷ z ∷ []) ys h = refl
three_back (x ∷ y ∷ z ∷ w ∷ ws) ys h = absurd (omega arith)

-- what the code computes: the session's call, and what came after it
module _ (ws t bytes : List ℕ) (d : Desk) (table : Rows) (lent a : List ℕ) {n : ℕ} {ws' t' f' : List ℕ}
    (fed : calls ws t bytes (0 ∷ 0 ∷ 0 ∷ []) ≡ record { number = n; session = ws'; store = t'; answer = f' }) where
  pub turned-setup : n ≡ 1 → turned ws t bytes d table lent a
      ≡ record { number = 1; session = ws'; store = t'; table = table; crosspoints = d.crosspoints; answers = lent; answer = a }
  unfolding turned
  turned-setup h = rw (fed, h) refl

  pub turned_on : (x : After) (given : List ℕ) (table' : Rows) (cells' : List ℕ) {a' : List ℕ} → (n ≡ 1 → ⊥) → length f' ≡ 3 → length a ≡ 9
      → next n (take (get_or f' 2 0) t') d table ≡ gave x given table' cells'
      → a' ≡ answer_put a (get_or f' 0 0) (get_or f' 1 0) (get_or f' 2 0) (later_of x given table' cells')
      → turned ws t bytes d table lent a
      ≡ record { number = n; session = ws'; store = t'; table = table'; crosspoints = cells'; answers = given; answer = a' }
  unfolding turned
  turned_on x given table' cells' {a'} h l k e q =
      let came = later_of x given table' cells' in
      rw (fed, ne_eqb _ _ h, e, three_back f' (later_words came) l, q, put-nine a (get_or f' 0 0) (get_or f' 1 0) (get_or f' 2 0) came k) refl

module _ (ws t bytes : List ℕ) (table : Rows) (fs path cells lent a : List ℕ) {b : Bool} (i : b ≡ is_figures fs) where
  pub turns-figures : b ≡ false → turns ws t bytes table fs path cells lent a
      ≡ record { number = 1; session = ws; store = t; table = table; crosspoints = cells; answers = lent; answer = a }
  unfolding turns
  turns-figures n = rw (sym i ∙ n) refl

  module _ (y : b ≡ true) {f : Figures} (e : f ≡ figures_at fs) {n : ℕ} (m : size_of f ≡ n) {k : Bool}
      (j : k ≡ lengths_fit (length table) n (length cells) (length path) (length a)) where
    fit_is : k ≡ lengths_fit (length table) (size_of (figures_at fs)) (length cells) (length path) (length a)
    fit_is = j ∙ ap (λ (i : ℕ). lengths_fit (length table) i (length cells) (length path) (length a)) (sym m ∙ ap size_of e)

    pub turns-lengths : k ≡ false → turns ws t bytes table fs path cells lent a
        ≡ record { number = 1; session = ws; store = t; table = table; crosspoints = cells; answers = lent; answer = a }
    unfolding turns
    turns-lengths z = rw (sym i ∙ y, sym fit_is ∙ z) refl

    pub turns-on : {x : Turned} → k ≡ true → turned ws t bytes (desk_at f path cells) table lent a ≡ x
        → turns ws t bytes table fs path cells lent a ≡ x
    unfolding turns
    turns-on g h = rw (sym i ∙ y, sym fit_is ∙ g, ← e) h

-- ---- route sheets

module _ (a : List ℕ) {x : written.Answer} (out : List ℕ) where
  pub wrote-setup : x ≡ writtens.Setup → measured (wrote_as x out) a ≡ sheet_put 1 out a
  unfolding measured
  wrote-setup e = rw e refl

  pub wrote-out : length a ≡ 1 → x ≡ writtens.Out → measured (wrote_as x out) a ≡ sheet_put 46 out (set a 0 0)
  unfolding measured
  wrote-out h e = rw (e, set-one a 0 h) refl

  pub wrote-done : {n w : ℕ} → length a ≡ 1 → x ≡ writtens.Done n → w ≡ n → measured (wrote_as x out) a ≡ sheet_put 0 out (set a 0 w)
  unfolding measured
  wrote-done {n} h e p = rw (e, p, set-one a n h) refl

module _ (fs a : List ℕ) {x : Sheet} (store path : List ℕ) (cells : Cells) where
  pub read-setup : x ≡ sheets.Setup → given (read_as x store path cells) fs a ≡ sheet_call 1 store fs path cells a
  unfolding given
  read-setup e = rw e refl

  pub read-refused : {n : ℕ} → length a ≡ 1 → x ≡ sheets.Refused n → given (read_as x store path cells) fs a ≡ sheet_call n store fs path cells (set a 0 0)
  unfolding given
  read-refused h e = rw (e, set-one a 0 h) refl

  pub read-desk : {f : Figures} {n w : ℕ} {fs' : List ℕ} → length a ≡ 1 → x ≡ sheets.Read f n → fs' ≡ words_of f → w ≡ n
      → given (read_as x store path cells) fs a ≡ sheet_call 0 store fs' path cells (set a 0 w)
  unfolding given
  read-desk {f} {n} h e i p = rw (e, i, p, set-one a n h) refl

module _ (fs path cells out words : List ℕ) where
  pub sheet-words : (length words ≡ 1 → ⊥) → sheet_writes fs path cells out words ≡ sheet_put 1 out words
  unfolding sheet_writes
  sheet-words h = rw (ne_eqb _ _ h, both-no (is_figures fs)) refl

  pub sheet-figures : {b : Bool} → b ≡ is_figures fs → b ≡ false → sheet_writes fs path cells out words ≡ sheet_put 1 out words
  unfolding sheet_writes
  sheet-figures i m = rw (sym i ∙ m) refl

  pub sheet-wrote : {b : Bool} {f : Figures} {o : Wrote} {x : SheetPut} → length words ≡ 1 → b ≡ is_figures fs → b ≡ true → f ≡ figures_at fs
      → writes_sheet (desk_at f path cells) out ≡ o → measured o words ≡ x → sheet_writes fs path cells out words ≡ x
  unfolding sheet_writes
  sheet-wrote w i y e h g = rw (sym i ∙ y, eq-eqb _ _ w, ← e, h) g

module _ (text store fs path : List ℕ) (cells : Cells) (words : List ℕ) where
  pub sheet-no-figures : (length fs ≡ 7 → ⊥) → sheet_reads text store fs path cells words ≡ sheet_call 1 store fs path cells words
  unfolding sheet_reads
  sheet-no-figures h = rw (ne_eqb _ _ h) refl

  pub sheet-no-words : (length words ≡ 1 → ⊥) → sheet_reads text store fs path cells words ≡ sheet_call 1 store fs path cells words
  unfolding sheet_reads
  sheet-no-words h = rw (ne_eqb _ _ h, both-no (eqb (length fs) 7)) refl

  pub sheet-read : {o : sheet.Outcome} {x : SheetCall} → length fs ≡ 7 → length words ≡ 1 → sheet_read text store path cells ≡ o → given o fs words ≡ x
      → sheet_reads text store fs path cells words ≡ x
  unfolding sheet_reads
  sheet-read h k e g = rw (eq-eqb _ _ h, eq-eqb _ _ k, e) g
