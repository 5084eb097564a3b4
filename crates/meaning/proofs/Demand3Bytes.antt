-- Demand 3 of bytes, proved: `Demand3Bytes` of specs/Demand3.antt. Number 0 is acceptance, and the bytes written are the words of the result.
-- Assumes nothing beyond what the statement supposes.
use Prim.Native.Nat.{ℕ, zero, suc, ◌*◌, ◌/◌, ◌^◌, ◌≤◌, ◌<◌}
use native.Mathlib.Omega.{arith}
use mathlib.Core.Path.{◌≡◌, refl, sym, ◌∙◌, ap, subst}
use mathlib.Core.Bool.{Bool, true, false, ◌||◌, false≢true}
use mathlib.Core.List.{List, [], ◌∷◌, ◌++◌}
use lib.ListN.{length, get_or, take, drop}
use lib.Seq.{take_at}
use Rattle.octets.specs.Words.{words, bytes_of}
use Rattle.octets.proofs.Words.{length_bytes, words_bytes}
use Rattle.rules.specs.Words.{limit12, limit16, fresh_base, name_base, literal_base, head_word, action_word, is_name_word, is_literal_word, is_fresh_word}
use Rattle.rules.specs.Refusals.{Res, ok, refuse}
use Rattle.rules.specs.Signature.{Sig, heads, elem}
use Rattle.rules.specs.Flat.{Tab, CoreAction, Let, Set, Delete, Subsume, Union, Panic, Call, tab_words, action_words, words_of, encode, is_target}
use Rattle.rules.specs.Canonicalize.{bindings}
use Rattle.rules.specs.RemoveDupVars.{settle}
use Rattle.rules.specs.Calls.{Result, slices_whole, outcome_of, lower_words, lower_res, lower}
use Rattle.meaning.specs.Meaning.{All}
use Rattle.meaning.specs.Demand3.{CarriedFaithfully, Demand3Bytes}
use Rattle.meaning.specs.Numbers.{lower_numbers}
use Rattle.meaning.proofs.Lists.{all_append, all_map}
use Rattle.meaning.proofs.Results.{bind_ok}
use Rattle.meaning.proofs.Reading.{within_high}
use Rattle.meaning.proofs.Encoded.{TermWord, FitTerms, FitTab, FitAction}
use Rattle.meaning.proofs.Numbers.{lower_numbers_lem}
use Rattle.meaning.proofs.Demand3.{Accepted, accepted, demand3}

-- ---- the words of a result fit their four bytes

abbrev Small : ℕ → Type 0
Small w = w < 2 ^ 32

module _ (s : Sig) (few : heads s ≤ limit12) where
  term_small : (w : ℕ) → TermWord s w → Small w
  term_small w = go (is_fresh_word (heads s) w) refl (is_name_word w) refl (is_literal_word w) refl
    where
      go : (f : Bool) → is_fresh_word (heads s) w ≡ f → (n : Bool) → is_name_word w ≡ n → (l : Bool) → is_literal_word w ≡ l → ((f || n) || l) ≡ true → w < 2 ^ 32
      go true ef n en l el k = let h = within_high fresh_base (heads s * limit16) w ef in omega arith
      go false ef true en l el k = let h = within_high name_base limit12 w en in omega arith
      go false ef false en true el k = let h = within_high literal_base limit16 w el in omega arith
      go false ef false en false el k = absurd (false≢true k)

  terms_small : (ts : List ℕ) → All (TermWord s) ts → All Small ts
  terms_small = all_map (TermWord s) Small term_small

  target_small : (w : ℕ) → is_target s w ≡ true → Small w
  target_small w e = term_small w (ap (λ (b : Bool). b || is_literal_word w) e)

  -- a kind 3 word, its terms, and what follows
  called_small : (h : ℕ) (ts rest : List ℕ) (n : ℕ) → FitTerms s h ts → n ≤ suc (length ts) → All Small rest → All Small (head_word h n ∷ ts ++ rest)
  called_small h ts rest n f l r =
      let a = f.head in
      let b = f.few in
      (omega arith, all_append Small ts rest (terms_small ts f.terms) r)

  alone_small : (h : ℕ) (ts : List ℕ) → FitTerms s h ts → All Small (head_word h (length ts) ∷ ts)
  alone_small h ts f =
      let a = f.head in
      let b = f.few in
      (omega arith, terms_small ts f.terms)

  tab_small : (t : Tab) → FitTab s t → All Small (tab_words t)
  tab_small t f = called_small t.head t.ins (t.out ∷ []) (suc (length t.ins)) f.ins (omega arith) (term_small t.out f.out, tt)

  code_small : (n : ℕ) → n ≤ 8 → Small (action_word n)
  code_small n h = omega arith

  action_small : (a : CoreAction) → FitAction s a → All Small (action_words a)
  action_small (Let x t) f = (code_small 1 (omega arith), (target_small x f.0, (term_small t f.1, tt)))
  action_small (Set h ts v) f = (code_small 2 (omega arith), called_small h ts (v ∷ []) (length ts) f.0 (omega arith) (term_small v f.1, tt))
  action_small (Delete h ts) f = (code_small 3 (omega arith), alone_small h ts f)
  action_small (Subsume h ts) f = (code_small 4 (omega arith), alone_small h ts f)
  action_small (Union a b) f = (code_small 5 (omega arith), (term_small a f.0, (term_small b f.1, tt)))
  action_small (Panic l) f = (code_small 6 (omega arith), (let h = within_high literal_base limit16 l f in omega arith, tt))
  action_small (Call x h ts) f = (code_small 7 (omega arith), (target_small x f.0, alone_small h ts f.1))

  row_small : {A : Type 0} (enc : A → List ℕ) (P : A → Type 0) → ((x : A) → P x → All Small (enc x)) → (xs : List A) → All P xs → All Small (words_of enc xs)
  row_small enc P f [] h = tt
  row_small enc P f (x ∷ xs) h = all_append Small (enc x) (words_of enc xs) (f x h.0) (row_small enc P f xs h.1)

  encode_small : (ts : List Tab) (xs : List CoreAction) → All (FitTab s) ts → All (FitAction s) xs → length ts < limit12 → length xs < limit12 → All Small (encode ts xs)
  encode_small ts xs f g l m =
      (omega arith, all_append Small (words_of tab_words ts) (words_of action_words xs) (row_small tab_words (FitTab s) tab_small ts f) (row_small action_words (FitAction s) action_small xs g))

small_at : (ws : List ℕ) → All Small ws → (i : ℕ) → get_or ws i 0 < 2 ^ 32
small_at [] h i = omega arith
small_at (w ∷ ws) h zero = h.0
small_at (w ∷ ws) h (suc i) = small_at ws h.1 i

-- the words of what was written
written_words : (ws output : List ℕ) → All Small ws → words (take (4 * length ws) (bytes_of ws ++ drop (4 * length ws) output)) ≡ ws
written_words ws output h =
    ap words (take_at (bytes_of ws) (drop (4 * length ws) output) (4 * length ws) (length_bytes ws)) ∙ words_bytes ws (small_at ws h)

-- ---- the theorem

result_small : (signature rule counters : List ℕ) (o : Result) → Accepted signature rule counters o → All Small o.words
result_small signature rule counters o a =
    let c = a.from.core in
    let b = settle a.from.sig c.body in
    subst (λ (x : Result). All Small x.words) a.from.gives
    (encode_small a.from.sig a.sound.few_heads b.tabs (bindings b.repls ++ c.head) a.tabs a.acts a.few a.some)

-- the words at the front of the output that a call leaves are those of its result
pub lowered_words : (signature rule counters output : List ℕ) (room scratch : ℕ) (o : Result) → lower_words signature rule counters room scratch ≡ ok o
    → words (take (4 * length o.words) (bytes_of o.words ++ drop (4 * length o.words) output)) ≡ o.words
lowered_words signature rule counters output room scratch o e = written_words o.words output (result_small signature rule counters o (accepted signature rule counters room scratch o e))

pub demand3_bytes : Demand3Bytes
unfolding lower
demand3_bytes signature rule counters output scratch = go (lower_res signature rule counters output scratch) refl
  where
    go : (r : Res Result) → lower_res signature rule counters output scratch ≡ r
        → (outcome_of output counters r).number ≡ 0
        → CarriedFaithfully (words signature) (words rule) (words counters)
        (words (take (4 * (outcome_of output counters r).written) (outcome_of output counters r).output)) (outcome_of output counters r).replacements
    go (refuse n p) e z = absurd (false≢true (subst (λ (k : ℕ). elem k lower_numbers ≡ true) z (lower_numbers_lem signature rule counters output scratch n p e)))
    go (ok o) e z =
        let w = bind_ok (slices_whole (length signature ∷ length rule ∷ length counters ∷ length output ∷ scratch ∷ [])) _ o e in
        subst (λ (ws : List ℕ). CarriedFaithfully (words signature) (words rule) (words counters) ws o.replacements)
        (sym (lowered_words (words signature) (words rule) (words counters) output (length output / 4) (scratch / 4) o w.2))
        (demand3 (words signature) (words rule) (words counters) (length output / 4) (scratch / 4) o w.2)
