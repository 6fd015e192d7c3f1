-- What stands at a place where a tag with its length was written, and at a container's end. All containers here have a definite length.
use Rattle.std.specs.Prelude.{Ok}
use Prim.Native.Nat.{ℕ, ◌+◌, ◌*◌, ◌≤◌, ◌<◌}
use mathlib.Core.Path.{◌≡◌, refl, sym, ap, subst, ◌∙◌}
use mathlib.Core.List.{List, [], ◌∷◌, ◌++◌, append_assoc}
use mathlib.Core.Bool.{Bool, true, false}
use native.Mathlib.Omega.{arith}
use borrow.Author.Tests.{lt-leb, lt-ltb, eq-eqb, ne_eqb}
use lib.ListN.{length, drop, get_or, length-append}
use Rattle.ber_tags.specs.Tag.{head_at}
use Rattle.ber_tags.specs.Write.{tag_octets, length_octets, bit as high}
use Rattle.ber_tags.specs.declared.Length.TheVariants.{Definite}
use Rattle.ber_tags.specs.declared.Head.TheVariants.{Tag as HeadTag}
use Rattle.ber_tags.proofs.Written.{head_read, drop_past, drop-room, drop_head}
use Rattle.ber_containers.specs.declared.Open.{Open}
use Rattle.ber_containers.specs.declared.Tag.{Tag}
use Rattle.ber_containers.specs.declared.Stands.TheVariants.{Ended, Here}
use Rattle.ber_containers.specs.Ends.{bit, zero_at, standing_at, deep, enter_at, first_at, last_at}
use Rattle.glow_trees.specs.Written.{tagged, outer}

-- a container of a definite length
abbrev pub till : ℕ → Open
till end = record { definite = 1; end = end }

abbrev pub tag_of : ℕ → ℕ → ℕ → ℕ → ℕ → Tag
tag_of class constructed number start end = record { class = class; constructed = constructed; number = number; start = start; inner = till end }

tag-short : (class : ℕ) (c : Bool) (n : ℕ) → n < 31 → tag_octets class c n ≡ (class * 64 + high c + n) ∷ []
unfolding tag_octets
tag-short class c n h = simp (lt-ltb _ _ h)

-- a tag at p, and what it holds
pub record Stood (s : List ℕ) (p end class : ℕ) (c : Bool) (n : ℕ) (xs rest : List ℕ) : Type 0 where
  pub start : ℕ
  pub here : standing_at s p (till end) ≡ Here (tag_of class (bit c) n start (p + length (tagged class c n xs)))
  pub there : drop start s ≡ xs ++ rest
  pub ends : start + length xs ≡ p + length (tagged class c n xs)
  pub later : p < start
  pub within : p < length s
  pub room : start + length xs + length rest ≤ length s

standing-tag : (s : List ℕ) (p end class : ℕ) (c : Bool) (n len start : ℕ) → head_at s p end ≡ HeadTag class c n (Definite len) start
    → (p ≡ end → ⊥) → p < length s → (get_or s p 0 ≡ 0 → ⊥) → standing_at s p (till end) ≡ Here (tag_of class (bit c) n start (start + len))
unfolding standing_at zero_at
standing-tag s p end class c n len start h e w z = simp (ne_eqb _ _ e, lt-leb _ _ w, ne_eqb _ _ z, h)

high-or : (class n : ℕ) (c : Bool) → 0 < class + n → (class * 64 + high c + n ≡ 0) → ⊥
high-or class n c h e = omega arith

pub stood : (s : List ℕ) → length s ≤ 16384 → (p end class : ℕ) (c : Bool) (n : ℕ) (xs rest : List ℕ) → n < 31 → 0 < class + n
    → drop p s ≡ tagged class c n xs ++ rest → p + length (tagged class c n xs) ≤ end → Stood s p end class c n xs rest
unfolding tagged
stood s few p end class c n xs rest one some t inside =
    let tag = tag_octets class c n in
    let size = length_octets (length xs) in
    let d : drop p s ≡ tag ++ (size ++ (xs ++ rest)) = t ∙ append_assoc tag (size ++ xs) rest ∙ ap (λ (x : List ℕ). tag ++ x) (append_assoc size xs rest) in
    let ts = tag-short class c n one in
    let f = drop_head s p (class * 64 + high c + n) (size ++ (xs ++ rest)) (d ∙ ap (λ (x : List ℕ). x ++ (size ++ (xs ++ rest))) ts) in
    let w : p < length s = f.0 in
    let l0 : length tag ≡ 1 = ap length ts in
    let l1 : length (tag ++ (size ++ xs)) ≡ length tag + length (size ++ xs) = length-append tag (size ++ xs) in
    let l2 : length (size ++ xs) ≡ length size + length xs = length-append size xs in
    let l3 : length (size ++ (xs ++ rest)) ≡ length size + length (xs ++ rest) = length-append size (xs ++ rest) in
    let l4 : length (xs ++ rest) ≡ length xs + length rest = length-append xs rest in
    let room = drop-room s p tag (size ++ (xs ++ rest)) d w in
    let p1 = drop_past s p tag (size ++ (xs ++ rest)) d in
    let p2 : drop (p + length tag + length size) s ≡ xs ++ rest = drop_past s (p + length tag) size (xs ++ rest) p1 in
    let h = head_read s p end class c n (length xs) (xs ++ rest) d (omega arith) (omega arith) (omega arith) in
    let e : p + length tag + length size + length xs ≡ p + length (tag ++ (size ++ xs)) = omega arith in
    let ne : p ≡ end → ⊥ = λ q. omega arith in
    let z : get_or s p 0 ≡ 0 → ⊥ = λ q. high-or class n c some (sym f.1.0 ∙ q) in
    record {
      start = p + length tag + length size;
      here = standing-tag s p end class c n (length xs) (p + length tag + length size) h ne w z
          ∙ ap (λ (i : ℕ). Here (tag_of class (bit c) n (p + length tag + length size) i)) e;
      there = p2;
      ends = e;
      later = omega arith;
      within = w;
      room = omega arith;
    }

-- the end of a container
pub standing-end : (s : List ℕ) (p end : ℕ) → p ≡ end → standing_at s p (till end) ≡ Ended p
unfolding standing_at
standing-end s p end e = simp (eq-eqb _ _ e)

pub last-here : (s : List ℕ) (p end k : ℕ) → p ≡ end → last_at s p (till end) k ≡ Ok p
unfolding last_at
last-here s p end k e = rw (standing-end s p end e)

-- a container that may be entered, and the value in an outer tag
pub enter-here : (s : List ℕ) (p end k class n start stop : ℕ) → standing_at s p (till end) ≡ Here (tag_of class 1 n start stop) → 0 < k
    → enter_at s p (till end) k ≡ Here (tag_of class 1 n start stop)
unfolding enter_at deep
enter-here s p end k class n start stop e h = let z : k ≡ 0 → ⊥ = λ q. omega arith in rw e (simp (ne_eqb _ _ z))

pub enter-end : (s : List ℕ) (p end k : ℕ) → p ≡ end → enter_at s p (till end) k ≡ Ended p
unfolding enter_at
enter-end s p end k e = rw (standing-end s p end e)

pub first-here : (s : List ℕ) (p end k class c n start stop : ℕ) → standing_at s p (till end) ≡ Here (tag_of class c n start stop)
    → deep c k ≡ false → first_at s p (till end) k ≡ Ok (tag_of class c n start stop)
unfolding first_at
first-here s p end k class c n start stop e h = rw (e, h)

pub deep-plain : (k : ℕ) → deep 0 k ≡ false
unfolding deep
deep-plain k = refl

pub deep-some : (k : ℕ) → 0 < k → deep 1 k ≡ false
unfolding deep
deep-some k h = let z : k ≡ 0 → ⊥ = λ q. omega arith in simp (ne_eqb _ _ z)

-- an outer tag at p, the tag of its one value at a, and what that holds at b; both end at q
pub record Outered (s : List ℕ) (p end n class : ℕ) (c : Bool) (number : ℕ) (xs rest : List ℕ) : Type 0 where
  pub a : ℕ
  pub b : ℕ
  pub q : ℕ
  pub here : standing_at s p (till end) ≡ Here (tag_of 2 1 n a q)
  pub first : standing_at s a (till q) ≡ Here (tag_of class (bit c) number b q)
  pub there : drop b s ≡ xs ++ rest
  pub after : drop q s ≡ rest
  pub ends : b + length xs ≡ q
  pub next : q ≡ p + length (outer n class c number xs)
  pub later : p < a
  pub later' : a < b
  pub within : p < length s
  pub room : q + length rest ≤ length s

pub outered : (s : List ℕ) → length s ≤ 16384 → (p end n class : ℕ) (c : Bool) (number : ℕ) (xs rest : List ℕ) → n < 31 → number < 31
    → 0 < class + number → drop p s ≡ outer n class c number xs ++ rest → p + length (outer n class c number xs) ≤ end
    → Outered s p end n class c number xs rest
outered s few p end n class c number xs rest one two some t inside =
    let inner = tagged class c number xs in
    let x = stood s few p end 2 true n inner rest one (omega arith) t inside in
    let q = p + length (outer n class c number xs) in
    let xe : x.start + length inner ≡ q = x.ends in
    let xr = x.room in
    let xl = x.later in
    let y = stood s few x.start q class c number xs rest two some x.there (omega arith) in
    let ye = y.ends in
    let yl = y.later in
    let e : x.start + length inner ≡ q = xe in
    record {
      a = x.start;
      b = y.start;
      q = q;
      here = x.here;
      first = y.here ∙ ap (λ (i : ℕ). Here (tag_of class (bit c) number y.start i)) e;
      there = y.there;
      after = subst (λ (i : ℕ). drop i s ≡ rest) e (drop_past s x.start inner rest x.there);
      ends = omega arith;
      next = refl;
      later = xl;
      later' = yl;
      within = x.within;
      room = omega arith;
    }
