-- Laws of parts and of words written into a list. A law that names the place behind a written row takes it as `q` with `q ≡ p + length xs`,
-- so that a caller gives its own sum and answers the equation by omega. Assumes nothing.
use mathlib.Core.Path.{◌≡◌, refl, sym, ap, ◌∙◌}
use mathlib.Core.List.{List, [], ◌∷◌, ◌++◌, append_assoc, append-nil}
use Prim.Native.Nat.{ℕ, ◌+◌, ◌-◌, ◌≤◌, ◌<◌}
use native.Mathlib.Nat.{add-zero, zero-add}
use native.Mathlib.Numerals.{add-one}
use native.Mathlib.Omega.{arith}
use lib.ListN.{length, get_or, set, take, drop, length-append, length-take, length-drop, take-append-drop}
use lib.Seq.{take-suc, take_at, drop_at, set_split, append_snoc, length-take-le, get_or-take, get_or-drop, drop-drop, take-add, take-take, take-length, ext_get_or}
use Rattle.octets.specs.Regions.{splice, part}

-- ---- parts

pub length_part : (l : List ℕ) (p n : ℕ) → p + n ≤ length l → length (part l p n) ≡ n
length_part l p n h =
    let k : n ≤ length (drop p l) = omega (arith, length-drop p l) in
    length-take-le n (drop p l) k

pub get_d_part : (l : List ℕ) (p n i : ℕ) → i < n → get_or (part l p n) i 0 ≡ get_or l (p + i) 0
get_d_part l p n i h = get_or-take n (drop p l) i 0 h ∙ get_or-drop p l i 0

-- the whole
pub part_all : (l : List ℕ) → part l 0 (length l) ≡ l
part_all l = take-length l

-- one word more
pub take_more : (l : List ℕ) (n : ℕ) → n < length l → take (n + 1) l ≡ take n l ++ (get_or l n 0 ∷ [])
take_more l n h = rw add-one (take-suc l n 0 h)

pub part_more : (l : List ℕ) (p n : ℕ) → p + n < length l → part l p (n + 1) ≡ part l p n ++ (get_or l (p + n) 0 ∷ [])
part_more l p n h =
    let k : n < length (drop p l) = omega (arith, length-drop p l) in
    rw (add-one, take-suc (drop p l) n 0, get_or-drop)

-- one word
pub part_one : (l : List ℕ) (p w : ℕ) → p < length l → get_or l p 0 ≡ w → part l p 1 ≡ w ∷ []
part_one l p w h e =
    let z : p + 0 ≡ p = omega arith in
    part_more l p 0 (omega arith) ∙ ap (λ (x : ℕ). x ∷ []) (ap (λ (i : ℕ). get_or l i 0) z ∙ e)

-- two parts that meet
pub part_join : (l : List ℕ) (p m n : ℕ) → part l p (m + n) ≡ part l p m ++ part l (p + m) n
part_join l p m n = take-add m n (drop p l) ∙ ap (λ (x : List ℕ). take m (drop p l) ++ take n x) (drop-drop m p l)

-- the front of a part
pub part_front : (l : List ℕ) (p n k : ℕ) → k ≤ n → part (part l p n) 0 k ≡ part l p k
part_front l p n k h = take-take k n (drop p l) h

-- two lists that agree on each word of a part
pub part_same : (l m : List ℕ) (p n : ℕ) → length m ≡ length l → ((i : ℕ) → p ≤ i → i < p + n → get_or m i 0 ≡ get_or l i 0) → part m p n ≡ part l p n
part_same l m p n e k =
    let s : length (part m p n) ≡ length (part l p n) = simp (length-take, length-drop, e) in
    ext_get_or 0 (part m p n) (part l p n) s (λ i h. go i h)
  where
    most : length (part m p n) ≤ n
    most = simp length-take (omega arith)

    go : (i : ℕ) → i < length (part m p n) → get_or (part m p n) i 0 ≡ get_or (part l p n) i 0
    go i h =
        let j : i < n = omega (arith, most) in
        get_d_part m p n i j ∙ k (p + i) (omega arith) (omega arith) ∙ sym (get_d_part l p n i j)

-- ---- words written

-- the definition, as an equation
pub splice_is : (l : List ℕ) (p : ℕ) (xs : List ℕ) → splice l p xs ≡ take p l ++ xs ++ drop (p + length xs) l
unfolding splice
splice_is l p xs = refl

-- no words: no change
pub splice_nil : (l : List ℕ) (p : ℕ) → splice l p [] ≡ l
unfolding splice
splice_nil l p = rw (add-zero, append-nil, take-append-drop)

-- words written where they stand: no change
pub splice_itself : (l : List ℕ) (p n : ℕ) → p + n ≤ length l → splice l p (part l p n) ≡ l
splice_itself l p n h =
    splice_is l p (part l p n) ∙ ap (λ (k : ℕ). take p l ++ part l p n ++ drop (p + k) l) (length_part l p n h)
    ∙ ap (λ (ws : List ℕ). ws ++ drop (p + n) l) (sym (take-add p n l)) ∙ take-append-drop (p + n) l

-- one store
pub splice_one : (l : List ℕ) (p w : ℕ) → p < length l → set l p w ≡ splice l p (w ∷ [])
unfolding splice
splice_one l p w h = rw (set_split, append_snoc, add-one)

-- words written at the start
pub splice_front : (l xs : List ℕ) → splice l 0 xs ≡ xs ++ drop (length xs) l
unfolding splice
splice_front l xs = rw zero-add

-- the front, with what is written, ends where the written row ends
front : (l : List ℕ) (p : ℕ) (xs : List ℕ) → p ≤ length l → length (take p l ++ xs) ≡ p + length xs
front l p xs h = rw (length-append, length-take-le)

pub length_splice : (l : List ℕ) (p : ℕ) (xs : List ℕ) → p + length xs ≤ length l → length (splice l p xs) ≡ length l
unfolding splice
length_splice l p xs h =
    let q : p ≤ length l = omega arith in
    rw (length-append, front l p xs q, length-drop) (omega arith)

-- what lies before, and after
pub take_splice : (l : List ℕ) (p : ℕ) (xs : List ℕ) → p ≤ length l → take p (splice l p xs) ≡ take p l
unfolding splice
take_splice l p xs h = rw append_assoc (take_at (take p l) (xs ++ drop (p + length xs) l) p (length-take-le p l h))

pub take_splice_all : (l : List ℕ) (p : ℕ) (xs : List ℕ) (q : ℕ) → p ≤ length l → q ≡ p + length xs → take q (splice l p xs) ≡ take p l ++ xs
unfolding splice
take_splice_all l p xs q h e = take_at (take p l ++ xs) (drop (p + length xs) l) q (front l p xs h ∙ sym e)

pub drop_splice : (l : List ℕ) (p : ℕ) (xs : List ℕ) (q : ℕ) → p ≤ length l → q ≡ p + length xs → drop q (splice l p xs) ≡ drop q l
unfolding splice
drop_splice l p xs q h e = drop_at (take p l ++ xs) (drop (p + length xs) l) q (front l p xs h ∙ sym e) ∙ ap (λ (k : ℕ). drop k l) (sym e)

-- what was written, read back
pub part_splice : (l : List ℕ) (p : ℕ) (xs : List ℕ) → p ≤ length l → part (splice l p xs) p (length xs) ≡ xs
unfolding splice
part_splice l p xs h =
    rw (append_assoc, drop_at (take p l) (xs ++ drop (p + length xs) l) p (length-take-le p l h)) (take_at xs (drop (p + length xs) l) (length xs) refl)

-- one word, read: before, inside, after
pub get_or_splice_before : (l : List ℕ) (p : ℕ) (xs : List ℕ) (i : ℕ) → p ≤ length l → i < p → get_or (splice l p xs) i 0 ≡ get_or l i 0
get_or_splice_before l p xs i h k = sym (get_or-take p (splice l p xs) i 0 k) ∙ ap (λ (m : List ℕ). get_or m i 0) (take_splice l p xs h) ∙ get_or-take p l i 0 k

pub get_or_splice_inside : (l : List ℕ) (p : ℕ) (xs : List ℕ) (i : ℕ) → p ≤ length l → i < length xs → get_or (splice l p xs) (p + i) 0 ≡ get_or xs i 0
get_or_splice_inside l p xs i h k = sym (get_d_part (splice l p xs) p (length xs) i k) ∙ ap (λ (m : List ℕ). get_or m i 0) (part_splice l p xs h)

pub get_or_splice_after : (l : List ℕ) (p : ℕ) (xs : List ℕ) (i : ℕ) → p ≤ length l → p + length xs ≤ i → get_or (splice l p xs) i 0 ≡ get_or l i 0
get_or_splice_after l p xs i h k =
    let n : ℕ = p + length xs in
    let e : n + (i - n) ≡ i = omega arith in
    ap (λ (j : ℕ). get_or (splice l p xs) j 0) (sym e) ∙ sym (get_or-drop n (splice l p xs) (i - n) 0)
    ∙ ap (λ (m : List ℕ). get_or m (i - n) 0) (drop_splice l p xs n h refl) ∙ get_or-drop n l (i - n) 0 ∙ ap (λ (j : ℕ). get_or l j 0) e

-- ---- rows written one behind the other

drop_more : (l : List ℕ) (p : ℕ) (xs ys : List ℕ) (q : ℕ) → p ≤ length l → q ≡ p + length xs → drop (q + length ys) (splice l p xs) ≡ drop (p + length (xs ++ ys)) l
drop_more l p xs ys q h e =
    let n : q + length ys ≡ p + length (xs ++ ys) = omega (arith, length-append xs ys) in
    sym (drop-drop (length ys) q (splice l p xs)) ∙ ap (drop (length ys)) (drop_splice l p xs q h e) ∙ drop-drop (length ys) q l ∙ ap (λ (k : ℕ). drop k l) n

pub splice_splice : (l : List ℕ) (p : ℕ) (xs : List ℕ) (q : ℕ) (ys : List ℕ) → p ≤ length l → q ≡ p + length xs → splice (splice l p xs) q ys ≡ splice l p (xs ++ ys)
splice_splice l p xs q ys h e =
    rw (splice_is (splice l p xs) q ys, take_splice_all l p xs q h e, drop_more l p xs ys q h e, append_assoc (take p l) xs ys, splice_is l p (xs ++ ys))

-- a store behind
pub splice_snoc : (l : List ℕ) (p : ℕ) (xs : List ℕ) (q w : ℕ) → q ≡ p + length xs → q < length l → set (splice l p xs) q w ≡ splice l p (xs ++ (w ∷ []))
splice_snoc l p xs q w e h =
    let a : p + length xs ≤ length l = omega arith in
    let b : p ≤ length l = omega arith in
    let k : q < length (splice l p xs) = omega (arith, length_splice l p xs a) in
    splice_one (splice l p xs) q w k ∙ splice_splice l p xs q (w ∷ []) b e

-- the same from list to list, as a writer's steps give it: a store behind a row, a row behind it, and a row
-- that ends in a part of the list itself, which the first row leaves as it was
pub splice_put : (l : List ℕ) (p : ℕ) (xs : List ℕ) (q w : ℕ) {m n : List ℕ} → m ≡ splice l p xs → n ≡ set m q w → q ≡ p + length xs → q < length l
    → n ≡ splice l p (xs ++ (w ∷ []))
splice_put l p xs q w a b e h = b ∙ ap (λ (x : List ℕ). set x q w) a ∙ splice_snoc l p xs q w e h

pub splice_then : (l : List ℕ) (p : ℕ) (xs : List ℕ) (q : ℕ) (ys : List ℕ) {m n : List ℕ} → m ≡ splice l p xs → n ≡ splice m q ys → q ≡ p + length xs
    → p ≤ length l → n ≡ splice l p (xs ++ ys)
splice_then l p xs q ys a b e h = b ∙ ap (λ (x : List ℕ). splice x q ys) a ∙ splice_splice l p xs q ys h e

pub splice_carry : (l : List ℕ) (p : ℕ) (xs : List ℕ) (q : ℕ) (ys : List ℕ) (from k : ℕ) {m n : List ℕ} → m ≡ splice l p xs
    → n ≡ splice m q (ys ++ part m from k) → q ≡ p + length xs → q ≤ from → from + k ≤ length l → n ≡ splice l p (xs ++ (ys ++ part l from k))
splice_carry l p xs q ys from k {m} {n} a b e h r =
    let le : p ≤ length l = omega arith in
    let size : length m ≡ length l = ap length a ∙ length_splice l p xs (omega arith) in
    let kept : part m from k ≡ part l from k =
    part_same l m from k size (λ i j _. ap (λ (x : List ℕ). get_or x i 0) a ∙ get_or_splice_after l p xs i le (omega arith)) in
    splice_then l p xs q (ys ++ part l from k) a (b ∙ ap (λ (x : List ℕ). splice m q (ys ++ x)) kept) e le
