-- The theorem of route sheets (document 01, "Desk"): the sheet of every legal desk is read back as the same desk, with its path, figures, limits as given
-- and crosspoints.
-- `sheet_of` (specs/Sheet.antt) is what the writer writes, `read_sheet` (specs/Reading.antt) what reading a byte string gives.
use Prim.Native.Nat.{ℕ, ◌+◌, ◌*◌, ◌≤◌}
use mathlib.Core.Path.{◌≡◌, sym, ap, ◌∙◌}
use mathlib.Core.List.{List, [], ◌∷◌, ◌++◌}
use mathlib.Core.Bool.{true}
use native.Mathlib.Omega.{arith}
use borrow.Author.Tests.{le-ltb}
use lib.ListN.{length}
use Rattle.ber_integers.proofs.Radix.{Below}
use Rattle.glow_trees.specs.Written.{written_real}
use Rattle.framing_packets.specs.Read.{Bytes}
use Rattle.framing_packets.specs.Written.{frame, request_body, payload_limit, earlier}
use Rattle.glow_walk.specs.Walk.{Walk}
use Rattle.trees_read_back.proofs.ReadBack.{reads-back, flat-count, written-spells}
use Rattle.desk_crosspoints.specs.Desk.{Desk, desk_legal}
use Rattle.sheet_rules.specs.Sheet.{line_of, sheet_tree, sheet_message, sheet_of}
use Rattle.sheet_rules.specs.KeepAlives.{AllFramed, Lines, WithAlives, request, sheet_frames}
use Rattle.sheet_rules.specs.Reading.{Sheet, refused, read, of_entries, of_answer, of_message, read_sheet}
use Rattle.sheet_rules.proofs.Stream.{message-read, frame-bytes, line-of, packets-lines}
use Rattle.sheet_rules.proofs.Alives.{passed, packets-framed, without}
use Rattle.sheet_rules.proofs.Asked.{targets-few, entries-read}
use Rattle.sheet_rules.proofs.Suited.{sheet-legal, sheet-count}
use Rattle.sheet_rules.proofs.Reals.{sheet-below}
use Rattle.sheet_rules.proofs.Sizes.{sheet-octets, sheet-size}

pub bytes_of : (xs : List ℕ) → Below 256 xs → Bytes xs
bytes_of [] h = tt
bytes_of (x ∷ xs) h = (h.0, bytes_of xs h.1)

module _ (d : Desk) (ok : desk_legal d ≡ true) where
  short : length (sheet_message d) ≤ 16384
  short = let s = sheet-size d ok in omega (arith, s)

  pub bytes : Bytes (sheet_message d)
  bytes = bytes_of (sheet_message d) (sheet-below d (sheet-legal d ok) (sheet-octets d ok) short)

  tree-read : of_message (sheet_message d) ≡ read d
  unfolding of_message sheet_message
  tree-read =
      let r = reads-back written_real written-spells 0 (sheet_tree d) (sheet-legal d ok) short in
      let n = flat-count (sheet_message d) r.0 (sheet_tree d) r.1.1 ∙ sheet-count d in
      let t = targets-few d ok in
      let l : length r.0 ≤ 256 = omega (arith, n, t) in
      ap (λ (k : Walk). of_answer (sheet_message d) k.out.entries k.out.answer) r.1.0
      ∙ rw (le-ltb _ _ l) (ap of_entries r.1.1 ∙ entries-read d ok)

  -- "A route sheet is one message ..": every legal desk's is read back as the desk.
  pub sheet-read : read_sheet (sheet_of d) ≡ read d
  unfolding read_sheet sheet_of
  sheet-read = message-read (sheet_message d) bytes short ∙ tree-read

-- "keep-alives are passed over": with keep-alives before, between and after the lines of frames, whatever these hold, and in lines of either case, reading
-- gives what it gives without.
pub alives-passed : (fs gs : List (List ℕ)) (text text' : List ℕ) → AllFramed fs → Lines fs text → WithAlives fs gs → Lines gs text'
    → read_sheet text' ≡ read_sheet text
alives-passed fs gs text text' r l a l' = passed r a l l'

-- So the sheet of every legal desk, with any number of keep-alives anywhere among its lines, is read back as the desk.
pub sheet-alive : (d : Desk) → desk_legal d ≡ true → (gs : List (List ℕ)) (text : List ℕ) → WithAlives (sheet_frames d) gs → Lines gs text
    → read_sheet text ≡ read d
unfolding sheet_of
sheet-alive d ok gs text a l =
    let m = sheet_message d in
    let b = bytes d ok in
    let n : length m ≤ payload_limit * (earlier (length m) + 1) = omega arith in
    alives-passed (sheet_frames d) gs (sheet_of d) text (packets-framed (earlier (length m)) true m b n)
    (packets-lines (earlier (length m)) true m b) a l
    ∙ sheet-read d ok

-- For one, with a request's line before it, all in the writer's own digits.
pub sheet-alive-first : (d : Desk) → desk_legal d ≡ true → read_sheet (line_of (frame request_body) ++ sheet_of d) ≡ read d
unfolding sheet_of
sheet-alive-first d ok =
    let m = sheet_message d in
    let b = bytes d ok in
    let q : Bytes request_body = (omega arith, (omega arith, (omega arith, (omega arith, tt)))) in
    sheet-alive d ok (frame request_body ∷ sheet_frames d) (line_of (frame request_body) ++ sheet_of d) (request (without (sheet_frames d)))
    (line-of (frame-bytes request_body q) (packets-lines (earlier (length m)) true m b))

-- Legal desks with one sheet are one desk: a sheet leaves nothing out.
abbrev desk_or : Desk → Sheet → Desk
desk_or d (refused n) = d
desk_or d (read e) = e

pub one-desk : (d e : Desk) → desk_legal d ≡ true → desk_legal e ≡ true → sheet_of d ≡ sheet_of e → d ≡ e
one-desk d e ok ok' same = ap (desk_or d) (sym (sheet-read d ok) ∙ ap read_sheet same ∙ sheet-read e ok')
