-- How long a result is, and that the two numbers of its header fit: the promises of specs/Bounds.antt on accepted calls. Assumes nothing.
use Prim.Native.Nat.{ℕ, ◌+◌, ◌*◌, ◌≤◌, ◌<◌}
use native.Mathlib.Omega.{arith}
use mathlib.Core.Path.{◌≡◌, ◌∙◌, subst}
use mathlib.Core.Bool.{true, ◌&&◌}
use mathlib.Core.List.{List, [], ◌++◌}
use lib.ListN.{length, get_or, length-append}
use lib.Dec.{leb}
use borrow.Author.Tests.{leb-true}
use Rattle.rules.specs.Words.{limit12, max_written, max_flat, header_base, header_word, is_header_word}
use Rattle.rules.specs.Refusals.{ok, demand, few_counters, bad_length, short_output}
use Rattle.rules.specs.Signature.{Sig, heads, read_signature}
use Rattle.rules.specs.Written.{Rule, read_written}
use Rattle.rules.specs.Flat.{Atom, CoreAction, FlatRule, tab_words, action_words, words_of, read_flat}
use Rattle.rules.specs.ToQuery.{to_query, body_vars}
use Rattle.rules.specs.ToCoreActions.{CoreRule, to_core_actions, to_core_rule}
use Rattle.rules.specs.Canonicalize.{bindings}
use Rattle.rules.specs.RemoveDupVars.{settle}
use Rattle.rules.specs.Calls.{Result, settled_result, lower_rule, scratch_fits, length_fits, lower_words, settle_words}
use Rattle.meaning.specs.Bounds.{LoweredSize, LoweredHeader, SettledSize, SettledHeader}
use Rattle.meaning.proofs.Sizes.{action_size, total}
use Rattle.meaning.proofs.Lists.{and_right, length_words, length_words_append}
use Rattle.meaning.proofs.Results.{ok_inj, bind_ok, demand_ok}
use Rattle.meaning.proofs.Encoded.{within_is}
use Rattle.meaning.proofs.WordLaws.{two_tab, two_action, length_bindings, bindings_words}
use Rattle.meaning.proofs.Room.{weight_words, settle_size}
use Rattle.meaning.proofs.ReadSizes.{rule_size_lem}
use Rattle.meaning.proofs.ReadFlatSizes.{flat_size}
use Rattle.meaning.proofs.LoweredBody.{lowered_body_size}
use Rattle.meaning.proofs.HeadSizes.{head_words}

-- ---- a settled rule

module _ (s : Sig) (xs : List Atom) (head : List CoreAction) (cs : List ℕ) where
  abbrev result : Result
  result = settled_result (settle s xs) head cs

  -- the header, the atoms, three words for each binding, and the head
  result_length : length result.words
      ≡ 1 + length (words_of tab_words (settle s xs).tabs) + 3 * length (settle s xs).repls + length (words_of action_words head)
  result_length =
      let b = settle s xs in
      omega (
        arith,
        bindings_words b.repls,
        length_words_append action_words (bindings b.repls) head,
        length-append (words_of tab_words b.tabs) (words_of action_words (bindings b.repls ++ head)),
      )

  -- an atom or an action has two words or more
  result_counts : length result.words < limit12
      → (length (settle s xs).tabs < limit12) × (length (bindings (settle s xs).repls ++ head) < limit12)
  result_counts h =
      let b = settle s xs in
      let n = result_length in
      let t = length_words tab_words 2 two_tab b.tabs in
      let w = length_words action_words 2 two_action head in
      let k = length-append (bindings b.repls) head in
      let l = length_bindings b.repls in
      (omega arith, omega arith)

header_fits : (a b : ℕ) → a < limit12 → b < limit12 → is_header_word (header_word a b) ≡ true
header_fits a b h k = within_is header_base (limit12 * limit12) (header_word a b) (omega arith) (omega arith)

-- ---- written rules

module _ (s : Sig) (ws cs : List ℕ) (r : Rule) (c : CoreRule) (read : read_written s ws ≡ ok r) (lowered : to_core_rule s r cs ≡ ok c) where
  core_head_size : length (words_of action_words c.head) ≤ 4 * total action_size r.actions
  core_head_size =
      let q = bind_ok (to_query r.facts cs) _ c lowered in
      let d = bind_ok (to_core_actions s (body_vars s q.0.atoms) r.actions q.0.next) _ c q.2 in
      subst (λ (x : CoreRule). length (words_of action_words x.head) ≤ 4 * total action_size r.actions) (ok_inj _ _ d.2)
      (head_words s (body_vars s q.0.atoms) r.actions q.0.next d.0 d.1)

  core_size_lem : length (settled_result (settle s c.body) c.head c.next).words ≤ 4 * length ws
  core_size_lem =
      omega (
        arith,
        result_length s c.body c.head c.next,
        lowered_body_size s ws cs r c read lowered,
        core_head_size,
        rule_size_lem s ws r read,
      )

  -- atoms, and bindings with actions, fit the header
  pub lowered_counts : length ws ≤ max_written
      → (length (settle s c.body).tabs < limit12) × (length (bindings (settle s c.body).repls ++ c.head) < limit12)
  lowered_counts l = let h = core_size_lem in result_counts s c.body c.head c.next (omega arith)

-- the length that lowering accepts
fits_most : (most n : ℕ) (ws : List ℕ) → length_fits most ws ≡ ok n → length ws ≤ most
fits_most most n ws e =
    let d = demand_ok (leb 1 (length ws) && leb (length ws) most) bad_length 0 (length ws) n e in
    leb-true (length ws) most (and_right (leb 1 (length ws)) (leb (length ws) most) d.0)

-- what an accepted call went through
pub record Lowered (signature rule counters : List ℕ) (o : Result) : Type 0 where
  pub sig : Sig
  pub tree : Rule
  pub core : CoreRule
  pub short : length rule ≤ max_written
  pub reads : read_signature signature ≡ ok sig
  pub read : read_written sig rule ≡ ok tree
  pub lowers : to_core_rule sig tree counters ≡ ok core
  pub gives : settled_result (settle sig core.body) core.head core.next ≡ o

lower_rule_inverse : (s : Sig) (r : Rule) (cs : List ℕ) (p o : Result) → lower_rule s r cs ≡ ok p → p ≡ o
    → (c : CoreRule) × (to_core_rule s r cs ≡ ok c) × (settled_result (settle s c.body) c.head c.next ≡ o)
lower_rule_inverse s r cs p o e d =
    let c = bind_ok (to_core_rule s r cs) _ p e in
    (c.0, c.1, ok_inj _ _ c.2 ∙ d)

pub lower_inverse : (signature rule counters : List ℕ) (room scratch : ℕ) (o : Result)
    → lower_words signature rule counters room scratch ≡ ok o → Lowered signature rule counters o
lower_inverse signature rule counters room scratch o e =
    let s = bind_ok (read_signature signature) _ o e in
    let c = bind_ok (demand (leb (heads s.0) (length counters)) few_counters 0 counters) _ o s.2 in
    let n = bind_ok (scratch_fits scratch) _ o c.2 in
    let l = bind_ok (length_fits max_written rule) _ o n.2 in
    let r = bind_ok (read_written s.0 rule) _ o l.2 in
    let p = bind_ok (lower_rule s.0 r.0 counters) _ o r.2 in
    let d = demand_ok (leb (length p.0.words) room) short_output (length p.0.words) p.0 o p.2 in
    let k = lower_rule_inverse s.0 r.0 counters p.0 o p.1 d.1 in
    record {
      sig = s.0;
      tree = r.0;
      core = k.0;
      short = fits_most max_written l.0 rule l.1;
      reads = s.1;
      read = r.1;
      lowers = k.1;
      gives = k.2;
    }

-- a lowered rule has at most four words for each word of the written one
pub lowered_size : LoweredSize
lowered_size signature rule counters room scratch o e =
    let w = lower_inverse signature rule counters room scratch o e in
    subst (λ (x : Result). length x.words ≤ 4 * length rule) w.gives
    (core_size_lem w.sig rule counters w.tree w.core w.read w.lowers)

-- and a header whose numbers have not run over
pub lowered_header : LoweredHeader
lowered_header signature rule counters room scratch o e =
    let w = lower_inverse signature rule counters room scratch o e in
    let k = lowered_counts w.sig rule counters w.tree w.core w.read w.lowers w.short in
    subst (λ (x : Result). is_header_word (get_or x.words 0 0) ≡ true) w.gives (header_fits _ _ k.0 k.1)

-- ---- flat rules

module _ (s : Sig) (ws : List ℕ) (f : FlatRule) (read : read_flat s ws ≡ ok f) where
  flat_result_size : length (settled_result (settle s f.atoms) f.actions []).words ≤ 2 * length ws
  flat_result_size =
      omega (
        arith,
        result_length s f.atoms f.actions [],
        settle_size s f.atoms,
        weight_words f.atoms,
        flat_size s ws f read,
      )

  pub settled_counts : length ws ≤ max_flat
      → (length (settle s f.atoms).tabs < limit12) × (length (bindings (settle s f.atoms).repls ++ f.actions) < limit12)
  settled_counts l = let h = flat_result_size in result_counts s f.atoms f.actions [] (omega arith)

-- what an accepted call went through
pub record SettledFrom (rule : List ℕ) (o : Result) : Type 0 where
  pub sig : Sig
  pub flat : FlatRule
  pub short : length rule ≤ max_flat
  pub read : read_flat sig rule ≡ ok flat
  pub gives : settled_result (settle sig flat.atoms) flat.actions [] ≡ o

pub settle_inverse : (signature rule : List ℕ) (room scratch : ℕ) (o : Result) → settle_words signature rule room scratch ≡ ok o → SettledFrom rule o
settle_inverse signature rule room scratch o e =
    let s = bind_ok (read_signature signature) _ o e in
    let n = bind_ok (scratch_fits scratch) _ o s.2 in
    let l = bind_ok (length_fits max_flat rule) _ o n.2 in
    let f = bind_ok (read_flat s.0 rule) _ o l.2 in
    let b = settled_result (settle s.0 f.0.atoms) f.0.actions [] in
    let d = demand_ok (leb (length b.words) room) short_output (length b.words) b o f.2 in
    record { sig = s.0; flat = f.0; short = fits_most max_flat l.0 rule l.1; read = f.1; gives = d.1 }

-- a settled rule has at most two words for each word of the flat one
pub settled_size : SettledSize
settled_size signature rule room scratch o e =
    let w = settle_inverse signature rule room scratch o e in
    subst (λ (x : Result). length x.words ≤ 2 * length rule) w.gives (flat_result_size w.sig rule w.flat w.read)

pub settled_header : SettledHeader
settled_header signature rule room scratch o e =
    let w = settle_inverse signature rule room scratch o e in
    let k = settled_counts w.sig rule w.flat w.read w.short in
    subst (λ (x : Result). is_header_word (get_or x.words 0 0) ≡ true) w.gives (header_fits _ _ k.0 k.1)
