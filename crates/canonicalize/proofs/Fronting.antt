-- The loop over the equalities in front of a body, on a scratch: what one of them leaves, and that all of them leave a rest that is canonicalized as the
-- whole is. Assumes nothing.
use mathlib.Core.Bool.{Bool, false, true}
use mathlib.Core.List.{List, [], ◌++◌, ◌∷◌, append_assoc, append-nil, map}
use mathlib.Core.Option.{Option, none, some}
use mathlib.Core.Path.{◌∙◌, ◌≡◌, ap, refl, subst, sym}
use Prim.Native.Nat.{◌*◌, ◌+◌, ◌-◌, ◌<◌, ◌≤◌, suc, ℕ}
use native.Mathlib.Omega.{arith}
use lib.ListN.{length, length-map}
use Rattle.octets.proofs.Places.{at_after, at_first, at_left, at_nil, at_right, only_same, only_splice, only_then, only_wide}
use Rattle.octets.specs.Regions.{At, Only, splice}
use Rattle.rules.specs.Canonicalize.{Replacement, canonicalize, first_replacement, or_else, replace_atom, replace_term, resolve, resolve_eq}
use Rattle.rules.specs.Flat.{Atom, Tab, atom_words, eqn, tab, tab_words, words_of}
use Rattle.rules.specs.Signature.{Sig, same_term}
use Rattle.rules.specs.Words.{limit12}
use Rattle.meaning.proofs.Lists.{map_append}
use Rattle.meaning.proofs.MergePass.{IsEqn}
use Rattle.meaning.proofs.Passes.{canonicalize_repls}
use Rattle.meaning.proofs.Room.{eqns_words, weight_replaced}
use Rattle.meaning.proofs.Sweep.{asked_var}
use Rattle.meaning.specs.Meaning.{All}
use Rattle.meaning.proofs.Sweep.{asks}
use Rattle.meaning.specs.Weight.{heads_weight, live, unlike, weight}
use Rattle.words.specs.Atom.{equality_size}
use Rattle.bodies.specs.Standing.{AtomsAt, TabsAt, atoms_in}
use Rattle.bodies.proofs.Standing.{atoms_before, atoms_join, no_tabs, tabs_before, tabs_join}
use Rattle.canonicalize.specs.declared.Canonical.{Canonical}
use Rattle.std.specs.Prelude as prelude
use Rattle.canonicalize.specs.Canonicalize.{FrontAsks, FrontOne, FrontOneAsks, FrontStep, Fronted, Stepped}
use Rattle.canonicalize.specs.Canonicalize.{binding_size, binding_words, resolve_at, place_of, ask_at}
use Rattle.canonicalize.specs.Spans.{Spanned}
use Rattle.canonicalize.proofs.Fronts.{asked_same_terms, canonicalize_asked, canonicalize_still}
use Rattle.canonicalize.proofs.Replacing.{ask_is, made}
use Rattle.canonicalize.proofs.Resolving.{resolve_atom, resolved_there}
use Rattle.canonicalize.proofs.SpanLaws.{spanned_before, spanned_tail}
use Rattle.rules.specs.Canonicalize as canon

-- ---- one equality: its replacement is tried, which leaves m, and its binding stands at e, if anything was asked

pub record Tried {s : Sig} {l : List ℕ} {p n to d table buckets : ℕ} (c : FrontOneAsks s l p n to d table buckets) (m : List ℕ)
    (e : prelude.Option ℕ) : Type 0 where
  pub place : e ≡ place_of (ask_at s l p) d
  pub stepped : Stepped (ask_at s l p) l m (p + equality_size) (n - equality_size) d table buckets

-- by a step behind the equality, at x
pub tried : {s : Sig} {l : List ℕ} {p n to d table buckets : ℕ} (c : FrontOneAsks s l p n to d table buckets) {m : List ℕ} {e : prelude.Option ℕ} {x : ℕ}
    → x ≡ p + equality_size → e ≡ place_of (ask_at s l p) d → Stepped (ask_at s l p) l m x (n - (x - p)) d table buckets → Tried c m e
tried {s} {l} {p} {n} {to} {d} {table} {buckets} c {m} {e} {x} q place stepped =
    let size : n - (x - p) ≡ n - equality_size = omega arith in
    record {
      place = place;
      stepped = subst (λ (y : ℕ). Stepped (ask_at s l p) l m (p + equality_size) y d table buckets) size
          (subst (λ (y : ℕ). Stepped (ask_at s l p) l m y (n - (x - p)) d table buckets) q stepped);
    }

-- ---- the loop on its way: i words of equalities are passed

pub record Fronting (s : Sig) (l m : List ℕ) (at e k to d₀ table buckets i : ℕ) (t : Canonical) : Type 0 where
  pub eqs : List Atom
  pub others : List Atom
  pub written : List Tab
  pub rs : List Replacement
  pub equalities : All IsEqn eqs
  pub left : e ≡ i + equality_size * length eqs
  pub stand : AtomsAt (eqs ++ others) m (at + i) (e - i + k)
  pub spanned : Spanned m (at + i) (e - i + k) table buckets
  pub tabs : TabsAt written m to t.words
  pub binds : At (binding_words rs) m t.binds
  pub count : t.binds + binding_size * length rs ≡ d₀
  pub room : to + t.words + weight (eqs ++ others) + binding_size * length (eqs ++ others) + binding_size ≤ t.binds
  pub all_tabs : (canonicalize s (atoms_in l at e ++ atoms_in l (at + e) k) []).tabs ≡ written ++ (canonicalize s (eqs ++ others) []).tabs
  pub all_repls : (canonicalize s (atoms_in l at e ++ atoms_in l (at + e) k) []).repls ≡ (canonicalize s (eqs ++ others) []).repls ++ rs
  pub only : Only l m at d₀

-- the equality that is next
pub record Front (eqs others : List Atom) (m : List ℕ) (p n : ℕ) : Type 0 where
  pub place : ℕ
  pub a : ℕ
  pub b : ℕ
  pub es : List Atom
  pub is : eqs ≡ eqn place a b ∷ es
  pub equalities : All IsEqn es
  pub stands : At (atom_words (eqn place a b)) m p
  pub behind : (q r : ℕ) → q ≡ p + equality_size → r ≡ n - equality_size → AtomsAt (es ++ others) m q r
  pub bare : place ≡ 0

front : (eqs others : List Atom) (m : List ℕ) (p n : ℕ) → All IsEqn eqs → AtomsAt (eqs ++ others) m p n → 0 < length eqs → 0 < n → Front eqs others m p n
front [] others m p n f s h k = absurd (omega arith)
front (tab t ∷ es) others m p n f s h k = absurd f.0
front (eqn place a b ∷ es) others m p n f s h k =
    let size : n ≡ equality_size + length (words_of atom_words (es ++ others)) = omega (arith, s.size) in
    record {
      place = place;
      a = a;
      b = b;
      es = es;
      is = refl;
      equalities = f.1;
      stands = at_left (words_of atom_words (es ++ others)) s.at;
      behind = λ q r eq er. record {
        fits = s.fits.1;
        bare = s.bare.1;
        size = less n (length (words_of atom_words (es ++ others))) r size er;
        at = at_right (atom_words (eqn place a b)) q s.at eq;
        within = in_it n (length (words_of atom_words (es ++ others))) p q r (length m) size eq er s.within;
      };
      bare = s.bare.0;
    }
  where
    less : (n x r : ℕ) → n ≡ equality_size + x → r ≡ n - equality_size → r ≡ x
    less n x r e f = omega arith

    in_it : (n x p q r t : ℕ) → n ≡ equality_size + x → q ≡ p + equality_size → r ≡ n - equality_size → p + n ≤ t → q + r ≤ t
    in_it n x p q r t e f g h = omega arith

resolved_size : (s : Sig) (p a b : ℕ) → length (words_of tab_words (resolve s (eqn p a b ∷ []))) ≡ 4 * unlike (same_term a b)
resolved_size s p a b = go (same_term a b)
  where
    go : (c : Bool) → length (words_of tab_words (resolve_eq s c p a b [])) ≡ 4 * unlike c
    go true = refl
    go false = refl

replaced_eqns : (r : Replacement) (ys : List Atom) → All IsEqn ys → All IsEqn (map (replace_atom r) ys)
replaced_eqns r [] h = tt
replaced_eqns r (eqn p a b ∷ ys) h = (tt, replaced_eqns r ys h.1)
replaced_eqns r (tab t ∷ ys) h = absurd h.0

module _ {l : List ℕ} {at e k to d₀ table buckets : ℕ} (c : FrontAsks l at e k to d₀ table buckets) where
  pub fronting_start : {s : Sig} → Fronting s l l at e k to d₀ table buckets 0 (record { words = 0; binds = d₀ })
  fronting_start =
      record {
        eqs = atoms_in l at e;
        others = atoms_in l (at + e) k;
        written = [];
        rs = [];
        equalities = c.equalities;
        left = omega (arith, c.eqs.size, eqns_words (atoms_in l at e) c.equalities);
        stand = subst (λ (q : ℕ). AtomsAt (atoms_in l at e ++ atoms_in l (at + e) k) l q (e - 0 + k)) (plus at)
            (subst (λ (q : ℕ). AtomsAt (atoms_in l at e ++ atoms_in l (at + e) k) l at (q + k)) (minus e)
            (atoms_join (atoms_in l at e) (atoms_in l (at + e) k) l at e (at + e) k c.eqs c.others refl));
        spanned = spanned_tail (at + 0) (e - 0 + k) c.spanned (omega arith) (omega arith);
        tabs = no_tabs l to (omega (arith, c.room, c.top));
        binds = at_nil l d₀ c.top;
        count = omega arith;
        room = omega (arith, c.room);
        all_tabs = refl;
        all_repls = sym (append-nil _);
        only = only_same l at d₀;
      }
    where
      plus : (p : ℕ) → p ≡ p + 0
      plus p = omega arith

      minus : (p : ℕ) → p ≡ p - 0
      minus p = omega arith

  module _ {s : Sig} {m : List ℕ} {i : ℕ} {t : Canonical} (w : Fronting s l m at e k to d₀ table buckets i t) (h : i < e) where
    next : Front w.eqs w.others m (at + i) (e - i + k)
    next = front w.eqs w.others m (at + i) (e - i + k) w.equalities w.stand (omega (arith, w.left)) (omega arith)

    abbrev first : Atom
    first = eqn next.place next.a next.b

    abbrev later : List Atom
    later = next.es ++ w.others

    -- what is written is t, with r behind it
    abbrev after : Canonical → Canonical
    after r = record { words = t.words + r.words; binds = r.binds }

    all_is : w.eqs ++ w.others ≡ first ∷ later
    all_is = ap (λ (zs : List Atom). zs ++ w.others) next.is

    wrote : resolve_at s m (at + i) ≡ words_of tab_words (resolve s (first ∷ []))
    wrote = resolve_atom s m (at + i) first tt next.stands

    short : length (resolve_at s m (at + i)) ≡ 4 * unlike (same_term next.a next.b)
    short = ap length wrote ∙ resolved_size s next.place next.a next.b

    weights : weight (w.eqs ++ w.others) ≡ 4 * unlike (same_term next.a next.b) + weight later
    weights = ap weight all_is ∙ more (unlike (same_term next.a next.b)) (live later) (heads_weight later)
      where
        more : (a b d : ℕ) → 4 * (a + b) + d ≡ 4 * a + (4 * b + d)
        more a b d = omega arith

    lengths : length (w.eqs ++ w.others) ≡ suc (length later)
    lengths = ap length all_is

    long : e ≡ i + equality_size + equality_size * length next.es
    long = omega (arith, w.left, ap length next.is)

    pub front_one_asks : FrontOneAsks s m (at + i) (e - i + k) (to + t.words) t.binds table buckets
    front_one_asks =
        record {
          equality = at_first next.stands;
          whole = omega (arith, long);
          spanned = spanned_tail (at + i + equality_size) (e - i + k - equality_size) w.spanned (omega arith) (omega (arith, long));
          clear = omega (arith, c.clear);
          room = omega (arith, w.room, short, weights, w.binds.within);
          binds = omega (arith, w.room, c.clear);
          top = omega (arith, w.binds.within);
        }

    -- it asks for nothing: what it becomes is written
    still : {m₂ : List ℕ} (r : Canonical) → asks s first ≡ none → s.value_eq < limit12
        → FrontStep none s m m₂ (at + i) (e - i + k) (to + t.words) t.binds table buckets r → Fronting s l m₂ at e k to d₀ table buckets (i + equality_size) (after r)
    still {m₂} r n v q =
        let new : List ℕ = resolve_at s m (at + i) in
        let one : List Tab = resolve s (first ∷ []) in
        let m₁ : List ℕ = splice m (to + t.words) new in
        let end : to + (t.words + r.words) ≡ to + t.words + length new = omega (arith, q.0) in
        let o : Only m m₁ (to + t.words) (to + (t.words + r.words)) =
        only_splice m (to + t.words) new (to + (t.words + r.words)) end (omega (arith, front_one_asks.room)) in
        let tab-one = resolved_there s first (to + t.words) v tt tt next.bare next.stands front_one_asks.room in
        let still-is = canonicalize_still s next.place next.a next.b later [] n in
        subst (λ (z : List ℕ). Fronting s l z at e k to d₀ table buckets (i + equality_size) (after r)) (sym q.2)
        (record {
          eqs = next.es;
          others = w.others;
          written = w.written ++ one;
          rs = w.rs;
          equalities = next.equalities;
          left = omega (arith, long);
          stand = atoms_before o (next.behind (at + (i + equality_size)) (e - (i + equality_size) + k) (omega arith) (omega (arith, long)))
              (omega (arith, c.clear, c.spanned.beyond, long));
          spanned = spanned_before o (spanned_tail (at + (i + equality_size)) (e - (i + equality_size) + k) w.spanned (omega arith) (omega (arith, long))) (omega (arith, c.clear));
          tabs = subst (λ (u : ℕ). TabsAt (w.written ++ one) m₁ to (t.words + u)) (sym q.0)
              (tabs_join w.written one m₁ to t.words (to + t.words) (length new) (tabs_before o w.tabs (omega arith)) tab-one refl);
          binds = subst (λ (u : ℕ). At (binding_words w.rs) m₁ u) (sym q.1) (at_after o w.binds (omega (arith, w.room, short, weights)));
          count = omega (arith, q.1, w.count);
          room = omega (arith, q.0, q.1, w.room, short, weights, lengths);
          all_tabs = w.all_tabs
              ∙ ap (λ (zs : List Atom). w.written ++ (canonicalize s zs []).tabs) all_is
              ∙ ap (λ (z : canon.Canonical). w.written ++ z.tabs) still-is
              ∙ sym (append_assoc w.written one (canonicalize s later []).tabs);
          all_repls = w.all_repls
              ∙ ap (λ (zs : List Atom). (canonicalize s zs []).repls ++ w.rs) all_is
              ∙ ap (λ (z : canon.Canonical). z.repls ++ w.rs) still-is;
          only = only_then w.only (only_wide at d₀ o (omega (arith, c.clear, c.spanned.beyond)) (omega (arith, w.room, short, weights, w.count)));
        })

    -- it asks for r, which is made behind it
    asked : {m₂ : List ℕ} (u : Canonical) (r : Replacement) → asks s first ≡ some r
        → FrontStep (some r) s m m₂ (at + i) (e - i + k) (to + t.words) t.binds table buckets u
        → Fronting s l m₂ at e k to d₀ table buckets (i + equality_size) (after u)
    asked {m₂} u r n q =
        let behind : AtomsAt later m (at + i + equality_size) (e - i + k - equality_size) = next.behind (at + i + equality_size) (e - i + k - equality_size) refl refl in
        let mk = made s w.rs (asked_var s first r n) behind w.binds front_one_asks.binds q.2 in
        let zs : List Atom = map (replace_atom r) next.es ++ map (replace_atom r) w.others in
        let split : map (replace_atom r) later ≡ zs = map_append (replace_atom r) next.es w.others in
        let one : first_replacement s (first ∷ later) ≡ some r = ap (λ (o : Option Replacement). or_else o (first_replacement s later)) n in
        let gone : unlike (same_term (replace_term r next.a) (replace_term r next.b)) ≡ 0 =
        ap unlike (asked_same_terms s next.place next.a next.b r n) in
        let lighter : weight (map (replace_atom r) later) + 4 ≤ weight (w.eqs ++ w.others) =
        subst (λ (us : List Atom). weight (map (replace_atom r) later) + 4 ≤ weight us) (sym all_is)
        (omega (arith, weight_replaced s (first ∷ later) r one, gone)) in
        let Asked-is = canonicalize_asked s next.place next.a next.b later [] r n ∙ canonicalize_repls s (map (replace_atom r) later) (r ∷ []) in
        record {
          eqs = map (replace_atom r) next.es;
          others = map (replace_atom r) w.others;
          written = w.written;
          rs = r ∷ w.rs;
          equalities = replaced_eqns r next.es next.equalities;
          left = omega (arith, long, length-map next.es (replace_atom r));
          stand = subst (λ (us : List Atom). AtomsAt us m₂ (at + (i + equality_size)) (e - (i + equality_size) + k)) split
              (subst (λ (j : ℕ). AtomsAt (map (replace_atom r) later) m₂ j (e - (i + equality_size) + k)) (omega arith)
              (subst (λ (j : ℕ). AtomsAt (map (replace_atom r) later) m₂ (at + i + equality_size) j) (omega (arith, long)) mk.atoms));
          spanned = spanned_tail (at + (i + equality_size)) (e - (i + equality_size) + k) mk.spanned (omega arith) (omega (arith, long));
          tabs = subst (λ (j : ℕ). TabsAt w.written m₂ to (t.words + j)) (sym q.0)
              (subst (λ (j : ℕ). TabsAt w.written m₂ to j) (none_more t.words)
              (record {
                fits = w.tabs.fits;
                bare = w.tabs.bare;
                size = w.tabs.size;
                at = mk.between (words_of tab_words w.written) to w.tabs.at c.clear (omega (arith, w.tabs.size, w.room));
                within = omega (arith, mk.only.size, w.tabs.within);
              }));
          binds = subst (λ (j : ℕ). At (binding_words (r ∷ w.rs)) m₂ j) (sym q.1) mk.binds;
          count = omega (arith, q.1, w.count, w.room);
          room = subst (λ (us : List Atom). to + (t.words + u.words) + weight us + binding_size * length us + binding_size ≤ u.binds) split
              (omega (arith, q.0, q.1, w.room, lighter, lengths, length-map later (replace_atom r)));
          all_tabs = w.all_tabs
              ∙ ap (λ (us : List Atom). w.written ++ (canonicalize s us []).tabs) all_is
              ∙ ap (λ (z : canon.Canonical). w.written ++ z.tabs) Asked-is
              ∙ ap (λ (us : List Atom). w.written ++ (canonicalize s us []).tabs) split;
          all_repls = w.all_repls
              ∙ ap (λ (us : List Atom). (canonicalize s us []).repls ++ w.rs) all_is
              ∙ ap (λ (z : canon.Canonical). z.repls ++ w.rs) Asked-is
              ∙ append_assoc (canonicalize s (map (replace_atom r) later) []).repls (r ∷ []) w.rs
              ∙ ap (λ (us : List Atom). (canonicalize s us []).repls ++ r ∷ w.rs) split;
          only = only_then w.only (only_wide at d₀ mk.only (omega arith) (omega (arith, w.count)));
        }
      where
        none_more : (j : ℕ) → j ≡ j + 0
        none_more j = omega arith

    -- a turn of the loop
    -- the next one is at offset j
    pub fronting_next : s.value_eq < limit12 → {m₂ : List ℕ} {r : Canonical} {j : ℕ}
        → FrontOne s m m₂ (at + i) (e - i + k) (to + t.words) t.binds table buckets r → j ≡ i + equality_size → Fronting s l m₂ at e k to d₀ table buckets j (after r)
    fronting_next v {m₂} {r} {j} z ej =
        subst (λ (x : ℕ). Fronting s l m₂ at e k to d₀ table buckets x (after r)) (sym ej)
        (go (asks s first) refl
        (subst (λ (o : Option Replacement). FrontStep o s m m₂ (at + i) (e - i + k) (to + t.words) t.binds table buckets r)
        (ask_is s first m (at + i) next.stands) z.step))
      where
        go : (o : Option Replacement) → asks s first ≡ o → FrontStep o s m m₂ (at + i) (e - i + k) (to + t.words) t.binds table buckets r
            → Fronting s l m₂ at e k to d₀ table buckets (i + equality_size) (after r)
        go none n q = still r n v q
        go (some u) n q = asked r u n q

pub fronting_end : {s : Sig} {l m : List ℕ} {at e k to d₀ table buckets i : ℕ} {t : Canonical} → Fronting s l m at e k to d₀ table buckets i t → e ≤ i
    → Fronted s (atoms_in l at e) (atoms_in l (at + e) k) l m at e k to d₀ table buckets t
fronting_end {s} {l} {m} {at} {e} {k} {to} {d₀} {table} {buckets} {i} {t} w h = go w.eqs refl
  where
    left_over : (e k : ℕ) → e - e + k ≡ k
    left_over e k = omega arith

    go : (es : List Atom) → w.eqs ≡ es → Fronted s (atoms_in l at e) (atoms_in l (at + e) k) l m at e k to d₀ table buckets t
    go (z ∷ es) q = absurd (omega (arith, w.left, ap length q))
    go [] q =
        let gone : w.eqs ++ w.others ≡ w.others = ap (λ (us : List Atom). us ++ w.others) q in
        let ie : i ≡ e = omega (arith, w.left, ap length q) in
        record {
          written = w.written;
          rs = w.rs;
          rest = w.others;
          tabs = w.tabs;
          others = subst (λ (us : List Atom). AtomsAt us m (at + e) k) gone
              (subst (λ (u : ℕ). AtomsAt (w.eqs ++ w.others) m (at + e) u) (left_over e k)
              (subst (λ (u : ℕ). AtomsAt (w.eqs ++ w.others) m (at + u) (e - u + k)) ie w.stand));
          spanned = spanned_tail (at + e) k w.spanned (omega arith) (omega arith);
          binds = w.binds;
          count = w.count;
          room = subst (λ (us : List Atom). to + t.words + weight us + binding_size * length us + binding_size ≤ t.binds) gone w.room;
          all_tabs = w.all_tabs ∙ ap (λ (us : List Atom). w.written ++ (canonicalize s us []).tabs) gone;
          all_repls = w.all_repls ∙ ap (λ (us : List Atom). (canonicalize s us []).repls ++ w.rs) gone;
          only = w.only;
        }
