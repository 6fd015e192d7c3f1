-- Keep-alives anywhere a frame may stand: on lines of their own, or among other frames on a line. The lines are cut anywhere.
use Prim.Native.Nat.{ℕ, ◌+◌, ◌*◌, ◌≤◌}
use mathlib.Core.Path.{◌≡◌, refl, sym, ap, ◌∙◌}
use mathlib.Core.List.{List, [], ◌∷◌}
use mathlib.Core.Bool.{true}
use native.Mathlib.Omega.{arith}
use lib.ListN.{length}
use Rattle.framing.specs.Offers.{joined}
use Rattle.framing_session.specs.Rules.{none}
use Rattle.framing_packets.specs.Written.{payload_limit, earlier}
use Rattle.desk_crosspoints.specs.Desk.{Desk, desk_legal}
use Rattle.sheet_rules.specs.Sheet.{sheet_message, sheet_of}
use Rattle.sheet_rules.specs.Lines.{Stream, stream, lines_in}
use Rattle.sheet_rules.specs.Reading.{read, of_events, held_in, of_held, read_sheet}
use Rattle.sheet_rules.specs.KeepAlives.{Lines, WithAlives, AllFramed, sheet_frames}
use Rattle.sheet_rules.specs.InLines.{Holds, AllHold, InLines}
use Rattle.sheet_rules.proofs.Stream.{Some, AllSome, lines-read, packets-lines}
use Rattle.sheet_rules.proofs.Alives.{alike, framed-all, packets-framed}
use Rattle.sheet_rules.proofs.Theorems.{bytes, sheet-read}

some-line : (l : List ℕ) → Holds l → Some l
some-line [] h = h
some-line (b ∷ bs) h = tt

some-lines : (ls : List (List ℕ)) → AllHold ls → AllSome ls
some-lines [] h = tt
some-lines (l ∷ ls) h = (some-line l h.0, some-lines ls h.1)

-- such a text is one stream of bytes, that of the frames
pub text-read : {fs : List (List ℕ)} {text : List ℕ} → InLines fs text → lines_in text ≡ stream (joined fs)
text-read k = lines-read (some-lines k.lines k.hold) k.written ∙ ap stream k.bytes

-- a frame a line is one way to cut them
holds-some : (fs : List (List ℕ)) → AllSome fs → AllHold fs
holds-some [] s = tt
holds-some ([] ∷ fs) s = absurd s.0
holds-some ((b ∷ bs) ∷ fs) s = (tt, holds-some fs s.1)

pub one-a-line : {fs : List (List ℕ)} {text : List ℕ} → AllSome fs → Lines fs text → InLines fs text
one-a-line {fs} s l = record { lines = fs; hold = holds-some fs s; bytes = refl; written = l }

-- "keep-alives are passed over": frames, whatever they hold, with keep-alives before, between and after them, are read as without.
pub alives-anywhere : (fs gs : List (List ℕ)) (text text' : List ℕ) → AllFramed fs → InLines fs text → WithAlives fs gs → InLines gs text'
    → read_sheet text' ≡ read_sheet text
unfolding read_sheet of_events
alives-anywhere fs gs text text' r l a l' =
    let e = alike r a none 0 0 in
    ap (λ (x : Stream). of_held (held_in x)) (text-read l')
    ∙ rw (e.faults, e.messages, e.states) refl
    ∙ ap (λ (x : Stream). of_held (held_in x)) (sym (text-read l))

-- So the sheet of every legal desk, with any number of keep-alives anywhere among its frames, and its lines cut anywhere, is read back as the desk.
pub sheet-anywhere : (d : Desk) → desk_legal d ≡ true → (gs : List (List ℕ)) (text : List ℕ) → WithAlives (sheet_frames d) gs → InLines gs text
    → read_sheet text ≡ read d
unfolding sheet_of
sheet-anywhere d ok gs text a l =
    let m = sheet_message d in
    let b = bytes d ok in
    let n : length m ≤ payload_limit * (earlier (length m) + 1) = omega arith in
    let r = packets-framed (earlier (length m)) true m b n in
    alives-anywhere (sheet_frames d) gs (sheet_of d) text r
    (one-a-line (framed-all (sheet_frames d) r) (packets-lines (earlier (length m)) true m b)) a l
    ∙ sheet-read d ok
