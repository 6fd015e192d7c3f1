-- The reader's answer to every message of at most 16,384 octets and every table of at most 256 rows, by what the message encodes alone: `read-exactly` for the
-- definition that the contract of `glow_reader::read` equates its answer with, `call-exactly` for every call that its contract allows.
use Rattle.std.specs.Prelude.{Ok, Err, Result as Fallible}
use Rattle.ber_containers.specs.declared.No.{No}
use Prim.Native.Nat.{ℕ, ◌≤◌, ◌<◌}
use mathlib.Core.Path.{◌≡◌, refl, sym, ap, subst, ◌∙◌}
use mathlib.Core.List.{List, []}
use mathlib.Core.Bool.{Bool}
use mathlib.Core.Logic.{⊎_elim}
use native.Mathlib.Omega.{arith}
use borrow.Author.Tests.{le-ltb, lt-ltb}
use types.Run.{OneOf, miss}
use contract.Lifetimes.{Lfts}
use denote.Ref.{Bor, MutBor}
use denote.Triple.Clauses as Clauses
use borrow.Fn.World as World
use borrow.Fn.Kinds as K
use lib.ListN.{length}
use lib.Dec.{ltb}
use Rattle.base_choices.specs.Choices.{pick}
use Rattle.base_choices.proofs.Laws.{pick-by}
use Rattle.ber_integers.proofs.Radix.{Below, lt-or-le}
use Rattle.glow_rows.specs.Entry.{Entries, Rows, overlay}
use Rattle.glow_walk.specs.Walk.{walk}
use Rattle.glow_reader.specs.declared.Answer.{Answer}
use Rattle.glow_reader.specs.declared.Answer.TheVariants.{Room, Read}
use Rattle.glow_reader.specs.Message.{Reply, reply_by, refusals, Result, read_result, setup, read_of, read_at}
use Rattle.glow_reader.proofs.Answers.{past-untouched, refusal-numbers}
use Rattle.glow_reader.specs.contracts.read
use Rattle.glow_reader.proofs.read.Kinds as read-kinds
use Rattle.glow_reader.proofs.read.Reads as read-reads
use Rattle.glow_trees.specs.Content.{items_of}
use Rattle.glow_trees.specs.Rows.{items_in}
use Rattle.glow_trees.specs.Trees.{Trees, count, flat}
use Rattle.trees_accepted.specs.Stood.{Stood}
use Rattle.trees_accepted.proofs.Once.{stood-once}
use Rattle.trees_read_back.proofs.ReadBack.{flat-count}
use Rattle.trees_round_trip.proofs.Rows.{rows-items, tree-sixteen}
use Rattle.encodings.specs.Encodes.{Encodes}
use Rattle.encodings.specs.Reading.{ReadAs, LacksRoom, Refuses, AnswersExactly}
use Rattle.encodings.proofs.Exactly.{accepted, items-stood}
use Rattle.encodings.proofs.Reader.{encoded-legal, encoding-answered, refused-by}

module _ (s : List ℕ) (below : Below 256 s) (few : length s ≤ 16384) (rows : Rows) (most : length rows ≤ 256) where
  abbrev x : Result
  x = read_at s rows

  -- an encoding that the table has room for
  reads-it : (root : ℕ) (t : Trees) → Encodes s root t → count t ≤ length rows → ReadAs s rows root t x.answer x.rows
  reads-it root t e l =
      let r = encoding-answered s below few rows most root t e in
      let es : Entries = r.0 in
      let got : items_of s es ≡ flat 0 0 t = r.1.1 in
      let q : x ≡ read_result (Read root (count t)) (overlay es rows) =
      r.1.0 ∙ ap (λ (b : Bool). pick b (read_result (Room (count t)) rows) (read_result (Read root (count t)) (overlay es rows))) (le-ltb _ _ l) in
      let n : length es ≡ count t = flat-count s es t got in
      let fit : length es ≤ length rows = omega arith in
      record {
        says = ap (λ (y : Result). reply_by y.answer) q;
        stands = items-stood e.says;
        holds = ap (λ (y : Result). items_in s y.rows (count t)) q ∙ ap (items_in s (overlay es rows)) (sym n)
            ∙ rows-items s es rows (tree-sixteen s es root t (encoded-legal s below few root t e) got) fit ∙ got;
        past = past-untouched s rows (ap (λ (y : Result). y.answer) q);
      }

  -- one that it has no room for
  lacks-it : (root : ℕ) (t : Trees) → Encodes s root t → length rows < count t → LacksRoom rows (count t) x.answer x.rows
  lacks-it root t e l =
      let r = encoding-answered s below few rows most root t e in
      let q : x ≡ read_result (Room (count t)) rows =
      r.1.0 ∙ ap (λ (b : Bool). pick b (read_result (Room (count t)) rows) (read_result (Read root (count t)) (overlay r.0 rows))) (lt-ltb _ _ l) in
      record { says = ap (λ (y : Result). reply_by y.answer) q; same = ap (λ (y : Result). y.rows) q }

  -- a message is one of these, or refused
  by_cases : (P : Type 0) → ((root : ℕ) (t : Trees) → Encodes s root t → count t ≤ length rows → P)
      → ((root : ℕ) (t : Trees) → Encodes s root t → length rows < count t → P) → (Refuses rows x.answer x.rows → P) → P
  by_cases P fits lacks refused = by (walk s).out.answer refl
    where
      by : (a : Fallible ℕ No) → (walk s).out.answer ≡ a → P
      by (Ok m) q =
          let r = accepted s below q in
          ⊎_elim (λ (l : length rows < count r.0). lacks (walk s).which r.0 r.1 l)
          (λ (l : count r.0 ≤ length rows). fits (walk s).which r.0 r.1 l)
          (lt-or-le (length rows) (count r.0))
      by (Err e) q =
          let r = refused-by s below few rows most e q in
          let n : (reply_by x.answer).number ≡ e.0 = ap (λ (y : Result). (reply_by y.answer).number) r in
          let f = refusal-numbers s rows (ap (λ (y : Result). y.answer) r) in
          refused (record { number = subst (OneOf refusals) (sym n) f; same = ap (λ (y : Result). y.rows) r })

  read-encodes : (root : ℕ) (t : Trees) → ReadAs s rows root t x.answer x.rows → Encodes s root t × (count t ≤ length rows)
  read-encodes root t r =
      let zero : (reply_by x.answer).number ≡ 0 = ap (λ (y : Reply). y.number) r.says in
      by_cases (Encodes s root t × (count t ≤ length rows))
      (λ root' t' e l.
      let r' = reads-it root' t' e l in
      let w : root' ≡ root = sym (ap (λ (y : Reply). y.root) r'.says) ∙ ap (λ (y : Reply). y.root) r.says in
      let c : count t' ≡ count t = sym (ap (λ (y : Reply). y.count) r'.says) ∙ ap (λ (y : Reply). y.count) r.says in
      let f : flat 0 0 t' ≡ flat 0 0 t = sym r'.holds ∙ ap (items_in s x.rows) c ∙ r.holds in
      let q : t' ≡ t = stood-once root t' t (subst (λ (i : ℕ). Stood i t') w r'.stands) r.stands f in
      (subst (Encodes s root) q (subst (λ (i : ℕ). Encodes s i t') w e), omega arith))
      (λ root' t' e l. let y : (reply_by x.answer).number ≡ 38 = ap (λ (y : Reply). y.number) (lacks-it root' t' e l).says in absurd (omega arith))
      (λ n. absurd (miss refusals 0 tt (subst (OneOf refusals) zero n.number)))

  room-encodes : (n : ℕ) → LacksRoom rows n x.answer x.rows → (root : ℕ) × ((t : Trees) × (Encodes s root t × ((count t ≡ n) × (length rows < n))))
  room-encodes n r =
      let room : (reply_by x.answer).number ≡ 38 = ap (λ (y : Reply). y.number) r.says in
      by_cases ((root : ℕ) × ((t : Trees) × (Encodes s root t × ((count t ≡ n) × (length rows < n)))))
      (λ root t e l. let y : (reply_by x.answer).number ≡ 0 = ap (λ (y : Reply). y.number) (reads-it root t e l).says in absurd (omega arith))
      (λ root t e l.
      let q : count t ≡ n = sym (ap (λ (y : Reply). y.count) (lacks-it root t e l).says) ∙ ap (λ (y : Reply). y.count) r.says in
      (root, (t, (e, (q, omega arith)))))
      (λ n. absurd (miss refusals 38 tt (subst (OneOf refusals) room n.number)))

  refused_none : Refuses rows x.answer x.rows → (root : ℕ) (t : Trees) → Encodes s root t → ⊥
  refused_none r root t e =
      ⊎_elim
      (λ (l : length rows < count t).
      miss refusals 38 tt (subst (OneOf refusals) (ap (λ (y : Reply). y.number) (lacks-it root t e l).says) r.number))
      (λ (l : count t ≤ length rows).
      miss refusals 0 tt (subst (OneOf refusals) (ap (λ (y : Reply). y.number) (reads-it root t e l).says) r.number))
      (lt-or-le (length rows) (count t))

  none-refused : ((root : ℕ) (t : Trees) → Encodes s root t → ⊥) → Refuses rows x.answer x.rows
  none-refused n = by_cases (Refuses rows x.answer x.rows) (λ root t e l. absurd (n root t e)) (λ root t e l. absurd (n root t e)) (λ r. r)

  -- For every message of at most 16,384 octets and every table of at most 256 rows.
  pub read-exactly : AnswersExactly s rows (read_at s rows).answer (read_at s rows).rows
  read-exactly = record {
    reads = λ root t. (read-encodes root t, λ p. reads-it root t p.0 p.1);
    lacks = λ n. (
      room-encodes n,
      λ p.
          let t = p.1.0 in
          let q = p.1.1.1.0 in
          let l = p.1.1.1.1 in
          subst (λ (i : ℕ). LacksRoom rows i x.answer x.rows) q (lacks-it p.0 t p.1.1.0 (omega arith)),
    );
    refuses = (refused_none, none-refused);
  }

-- `glow_reader::read` was called with the message s and the table, gave a, and left the table': what its contract has it ensure.
pub record ReadCall (s : List ℕ) (table : Rows) (a : Answer) (table' : Rows) : Type 0 where
  pub κs : Lfts 2
  pub args : World.ArgsD read.signature κs
  pub exits : Clauses.AtExit (K.ended_of 2 read-kinds.ps read-kinds.r) κs
  pub message-is : args.0.now ≡ s
  pub table_is : args.1.0.now ≡ table
  pub left_is : exits.1.0.now ≡ table'
  pub ensured : read-reads.Post κs args a exits

-- a lent slice that holds xs
lent_slice : {A : Type 0} → List A → Bor (List A)
lent_slice xs = record { ref_ptr = (0, 0); now = xs }

-- the same, lent to be written
lent_out : {A : Type 0} → List A → MutBor (List A)
lent_out xs = record { ref_ptr = (0, 0); ghost_name = 0; now = xs }

abbrev Whole : Result → Type 0
Whole y = y ≡ read_result y.answer y.rows

whole-read : (rows : Rows) (which : ℕ) (es : Entries) (a : Fallible ℕ No) → Whole (read_of rows which es a)
whole-read rows which es (Ok n) = pick-by Whole (ltb (length rows) (length es)) (λ e. refl) (λ e. refl)
whole-read rows which es (Err e) = refl

whole : (s : List ℕ) (rows : Rows) → Whole (read_at s rows)
unfolding read_at
whole s rows =
    pick-by Whole (setup (length s) (length rows)) (λ e. refl) (λ e. whole-read rows (walk s).which (walk s).out.entries (walk s).out.answer)

-- There is such a call for every message and every table.
pub call-there : (s : List ℕ) (table : Rows) → ReadCall s table (read_at s table).answer (read_at s table).rows
unfolding lent_slice lent_out
call-there s table = record {
  κs = ([], ([], tt));
  args = (lent_slice s, (lent_out table, tt));
  exits = (lent_slice s, (lent_out (read_at s table).rows, tt));
  message-is = refl;
  table_is = refl;
  left_is = refl;
  ensured = whole s table;
}

read-says : {s : List ℕ} {table : Rows} {a : Answer} {table' : Rows} → ReadCall s table a table' → read_at s table ≡ read_result a table'
read-says k = cc k.ensured

-- The same of every call.
pub call-exactly : (s : List ℕ) → Below 256 s → length s ≤ 16384 → (table : Rows) → length table ≤ 256 → (a : Answer) (table' : Rows)
    → ReadCall s table a table' → AnswersExactly s table a table'
call-exactly s below few table most a table' k =
    subst (λ (y : Result). AnswersExactly s table y.answer y.rows) (read-says k) (read-exactly s below few table most)
