-- What holds of the items of a rule, whatever they are: each goes on behind its first word, so a row is read one by one, and a rule of two rows ends with its
-- words or is refused; and where a rule ends whose rows are read by readers that are lent. Assumes nothing.
use mathlib.Core.Path.{◌≡◌, refl, sym, ◌∙◌}
use mathlib.Core.Bool.{Bool, true, false}
use mathlib.Core.List.{List}
use Prim.Native.Nat.{ℕ, ◌≤◌, ◌<◌}
use lib.ListN.{length, get_or}
use lib.Dec.{leb}
use borrow.Author.Tests.{le-leb, lt-leb}
use Rattle.rules.specs.Words.{is_header_word, facts_of, actions_of}
use Rattle.rules.specs.Refusals.{Res, ok, refuse, ◌>>=◌, demand, unfit}
use Rattle.rules.specs.Signature.{Sig}
use Rattle.rules.specs.Written.{Read, Reader, Rule, read_word, read_row}
use Rattle.rules.specs.Written as Written
use Rattle.rules.specs.Flat.{FlatRule}
use Rattle.rules.specs.Flat as Flat
use Rattle.words.proofs.WordAt.{There, NotKind}
use Rattle.words.proofs.WordLaws.{header_kind, header_numbers}
use Rattle.words.specs.declared.Word.TheVariants.{Header}
use Rattle.written.specs.Written.{ending_of, whole_of, ends}
use Rattle.records.specs.Rows.{read_item, whole_ends}
use Rattle.records.specs.declared.rows.Item.{Item}
use Rattle.records.specs.declared.rows.Item.TheVariants.{Fact, Action, Atom, CoreAction}
use Rattle.written.proofs.Walking.{Went, Several, row}
use Rattle.written.proofs.Ends as Written-ends
use Rattle.flat.proofs.Ends as Flat-ends
use Rattle.written.proofs.Expected.{kind_fits, kind_unfit, whole_headed}
use Rattle.written.proofs.Rows.{ends_row}

pub went : (i : Item) (s : Sig) (ws : List ℕ) (p : ℕ) → Went ws p 1 (read_item i s ws p)
went Fact s ws p = Written-ends.went_fact s ws p
went Action s ws p = Written-ends.went_action s ws p
went Atom s ws p = Flat-ends.went_atom s ws p
went CoreAction s ws p = Flat-ends.went_action s ws p

pub items : (i : Item) (s : Sig) (ws : List ℕ) → Several ws (read_item i s ws) (read_row (read_item i s ws))
items i s ws = row ws (read_item i s ws) (went i s ws)

-- ---- what is made of two rows

abbrev pub pair : {A B : Type 0} → List A → List B → List A × List B
pair xs ys = (xs, ys)

abbrev pub rule : List Written.Fact → List Written.Action → Rule
rule fs xs = record { facts = fs; actions = xs }

abbrev pub flat_rule : List Flat.Atom → List Flat.CoreAction → FlatRule
flat_rule as' xs = record { atoms = as'; actions = xs }

-- ---- a rule that is read by two readers ends where they do

module _ {A B C : Type 0} (ws : List ℕ) (one : Reader A) (two : Reader B) (h : List A → List B → C) where
  abbrev Ends : {X : Type 0} → Reader X → ℕ → Res ℕ
  Ends read p = ending_of (read p)

  then : {X : Type 0} (x : Res X) (f : X → Res ℕ) (k : X → Res C) → ((a : X) → f a ≡ whole_of ws (k a)) → ◌>>=◌ x f ≡ whole_of ws (◌>>=◌ x k)
  then (ok a) f k same = same a
  then (refuse m p) f k same = refl

  -- what is read ends where its reading does
  then_ends : {X : Type 0} (e : Res ℕ) (x : Res (Read X)) (f : ℕ → Res ℕ) (k : Read X → Res C) → e ≡ ending_of x → ((a : Read X) → f a.at ≡ whole_of ws (k a))
      → ◌>>=◌ e f ≡ whole_of ws (◌>>=◌ x k)
  then_ends e (ok a) f k is same = rw is (same a)
  then_ends e (refuse m p) f k is same = rw is refl

  last : (q : ℕ) (c : C) (b : Bool) → demand b unfit q (length ws) ≡ whole_of ws (demand b unfit q c)
  last q c true = refl
  last q c false = refl

  pub whole_made : whole_ends (Ends one) (Ends two) ws ≡ whole_of ws (whole_headed ws h one two)
  whole_made =
      then (read_word ws is_header_word 0) _ _ (λ w.
      then_ends _ (read_row one (facts_of w.value) w.at) _ _ (ends_row one (facts_of w.value) w.at) (λ xs.
      then_ends _ (read_row two (actions_of w.value) xs.at) _ _ (ends_row two (actions_of w.value) xs.at) (λ ys.
      last ys.at (h xs.value ys.value) (leb (length ws) ys.at))))

-- so it ends where it ends, whatever is made of it
pub whole_alike : {A B C D : Type 0} (ws : List ℕ) (one : Reader A) (two : Reader B) (f : List A → List B → C) (g : List A → List B → D)
    → whole_of ws (whole_headed ws f one two) ≡ whole_of ws (whole_headed ws g one two)
whole_alike ws one two f g = sym (whole_made ws one two f) ∙ whole_made ws one two g

-- ---- the code's way through a whole rule

module _ (f g : ℕ → Res ℕ) {ws : List ℕ} where
  pub header_other : NotKind ws 0 5 → refuse unfit 0 ≡ whole_ends f g ws
  header_other n = rw (kind_unfit is_header_word 5 header_kind n) refl

  module _ {a b : ℕ} (t : There ws 0 (Header a b)) where
    header_read : whole_ends f g ws ≡ ◌>>=◌ (ends f a 1) (λ p. ◌>>=◌ (ends g b p) (λ q. demand (leb (length ws) q) unfit q (length ws)))
    header_read =
        let n = header_numbers (get_or ws 0 0) a b t.says in
        rw (kind_fits is_header_word 5 header_kind t refl, n.0, n.1) refl

    pub body_stops : {m p : ℕ} → refuse m p ≡ ends f a 1 → refuse m p ≡ whole_ends f g ws
    body_stops e = rw (header_read, ← e) refl

    module _ {p : ℕ} (e : ok p ≡ ends f a 1) where
      pub head_stops : {m q : ℕ} → refuse m q ≡ ends g b p → refuse m q ≡ whole_ends f g ws
      head_stops h = rw (header_read, ← e, ← h) refl

      pub surplus : {q : ℕ} → ok q ≡ ends g b p → q < length ws → refuse unfit q ≡ whole_ends f g ws
      surplus {q} h l = rw (header_read, ← e, ← h, lt-leb (length ws) q l) refl

      pub all_read_lem : {q : ℕ} → ok q ≡ ends g b p → length ws ≤ q → ok (length ws) ≡ whole_ends f g ws
      all_read_lem {q} h l = rw (header_read, ← e, ← h, le-leb (length ws) q l) refl
