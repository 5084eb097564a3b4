-- The steps of `canonicalize` make the whole: equalities in front, all replacements in what is left, and what becomes of it. Assumes nothing.
use mathlib.Core.List.{List, [], ◌++◌}
use mathlib.Core.Path.{◌∙◌, ◌≡◌, ap, refl, subst, sym}
use Prim.Native.Nat.{◌*◌, ◌+◌, ◌-◌, ◌^◌, ◌<◌, ◌≤◌, ℕ}
use native.Mathlib.Omega.{arith}
use lib.ListN.{length, length-append}
use Rattle.octets.proofs.Places.{at_after, at_join, only_then, only_wide}
use Rattle.octets.specs.Regions.{At, Only}
use Rattle.rules.specs.Canonicalize.{Replacement, canonicalize, replace_all, resolve}
use Rattle.rules.specs.Flat.{Atom, Tab, tab_words, words_of}
use Rattle.rules.specs.Signature.{Sig}
use Rattle.meaning.proofs.Room.{tabs_words_weight, weight_canonicalize}
use Rattle.meaning.specs.Weight.{weight}
use Rattle.bodies.specs.Standing.{AtomsAt, TabsAt, atoms_in}
use Rattle.bodies.proofs.Standing.{atoms_before, atoms_is, atoms_read, tabs_before, tabs_join}
use Rattle.canonicalize.specs.declared.Canonical.{Canonical}
use Rattle.canonicalize.specs.Canonicalize.{CanonicalAt, CanonicalizeAsks, FrontAsks, Fronted, Leads}
use Rattle.canonicalize.specs.Canonicalize.{ReplaceAsks, Replaced, ResolveAsks, Resolved, binding_size, binding_words}
use Rattle.canonicalize.specs.Spans.{Built, Spanned}
use Rattle.canonicalize.proofs.Replacing.{bindings_append, bindings_size}
use Rattle.canonicalize.proofs.SpanLaws.{spanned_tail}
use Rattle.canonicalize.proofs.SpansBuilt.{built_only}

-- ---- canonicalize

-- what is asked, with a table of spans
pub record Tabled (l : List ℕ) (at n to d table buckets : ℕ) : Type 0 where
  pub atoms : AtomsAt (atoms_in l at n) l at n
  pub spanned : Spanned l at n table buckets
  pub clear : table + 2 * buckets ≤ to
  pub room : to + weight (atoms_in l at n) + binding_size * length (atoms_in l at n) + binding_size ≤ d
  pub top : d ≤ length l

module _ {l : List ℕ} {at n to d : ℕ} (c : CanonicalizeAsks l at n to d) {m : List ℕ} {table buckets : ℕ}
    (place : table ≡ at + n) (b : Built l m at n table buckets) where
  made_table : Only l m table (table + 2 * buckets)
  made_table = built_only b (omega (arith, place, c.clear, c.room, c.top, b.few))

  same_atoms : AtomsAt (atoms_in l at n) m at n
  same_atoms = atoms_before made_table c.atoms (omega (arith, place))

  same : atoms_in m at n ≡ atoms_in l at n
  same = atoms_is m at n (atoms_in l at n) same_atoms

  pub tabled : Tabled m at n to d table buckets
  tabled =
      record {
        atoms = atoms_read m at n (atoms_in l at n) same_atoms;
        spanned = b.spanned;
        clear = omega (arith, place, c.clear, b.few);
        room = subst (λ (us : List Atom). to + weight us + binding_size * length us + binding_size ≤ d) (sym same) c.room;
        top = omega (arith, c.top, made_table.size);
      }

  -- as if there were no table
  pub untabled : {s : Sig} {m₂ : List ℕ} {r : Canonical} → CanonicalAt s (atoms_in m at n) m m₂ at to d r → CanonicalAt s (atoms_in l at n) l m₂ at to d r
  untabled {s} {m₂} {r} k =
      let o : Only l m at d = only_wide at d made_table (omega (arith, place)) (omega (arith, place, c.clear, c.room, b.few)) in
      subst (λ (us : List Atom). CanonicalAt s us l m₂ at to d r) same
      (record { tabs = k.tabs; binds = k.binds; count = k.count; only = only_then o k.only })

-- the equalities in front have e words
pub record Led (l : List ℕ) (at n to d table buckets e : ℕ) : Type 0 where
  pub tabled : Tabled l at n to d table buckets
  pub leads : Leads l at n e
  pub fits : length l < 2 ^ 64

pub led : {l m : List ℕ} {at n to d table buckets e : ℕ} → CanonicalizeAsks l at n to d → table ≡ at + n → Built l m at n table buckets
    → Leads m at n e → length m ≡ length l → length l < 2 ^ 64 → Led m at n to d table buckets e
led c place b leads same fits = record { tabled = tabled c place b; leads = leads; fits = omega arith }

module _ {l : List ℕ} {at n to d table buckets e : ℕ} (g : Led l at n to d table buckets e) where
  abbrev c : Tabled l at n to d table buckets
  c = g.tabled

  abbrev z : Leads l at n e
  z = g.leads

  pub leads_asks : FrontAsks l at e (n - e) to d table buckets
  leads_asks =
      record {
        eqs = z.eqs;
        equalities = z.equalities;
        others = z.others;
        spanned = spanned_tail at (e + (n - e)) c.spanned (omega arith) (omega (arith, z.inside));
        clear = c.clear;
        room = subst (λ (us : List Atom). to + weight us + binding_size * length us + binding_size ≤ d) z.whole c.room;
        top = c.top;
      }

  module _ {s : Sig} {m : List ℕ} {t : Canonical} (f : Fronted s (atoms_in l at e) (atoms_in l (at + e) (n - e)) l m at e (n - e) to d table buckets t) where
    rest_is : atoms_in m (at + e) (n - e) ≡ f.rest
    rest_is = atoms_is m (at + e) (n - e) f.rest f.others

    pub replace_asks : ReplaceAsks m (at + e) (n - e) t.binds table buckets
    replace_asks =
        record {
          atoms = atoms_read m (at + e) (n - e) f.rest f.others;
          spanned = f.spanned;
          room = subst (λ (us : List Atom). table + 2 * buckets + binding_size * length us + binding_size ≤ t.binds) (sym rest_is) (omega (arith, f.room, c.clear));
          top = omega (arith, f.binds.within);
        }

    module _ {m₂ : List ℕ} {r : ℕ} (k : Replaced s m m₂ (at + e) (n - e) t.binds table buckets r) where
      is : atoms_in m₂ (at + e) (n - e) ≡ (replace_all s f.rest []).atoms
      is =
          atoms_is m₂ (at + e) (n - e) (replace_all s (atoms_in m (at + e) (n - e)) []).atoms k.atoms
          ∙ ap (λ (us : List Atom). (replace_all s us []).atoms) rest_is

      count : r + binding_size * length (canonicalize s f.rest []).repls ≡ t.binds
      count = subst (λ (us : List Atom). r + binding_size * length (replace_all s us []).repls ≡ t.binds) rest_is k.count

      ends : to + t.words + length (words_of tab_words (canonicalize s f.rest []).tabs) ≤ r
      ends = omega (arith, weight_canonicalize s f.rest [], tabs_words_weight (canonicalize s f.rest []).tabs, f.room, count)

      pub resolve_asks : ResolveAsks s m₂ (at + e) (n - e) (to + t.words)
      resolve_asks =
          record {
            atoms = atoms_read m₂ (at + e) (n - e) (replace_all s (atoms_in m (at + e) (n - e)) []).atoms k.atoms;
            clear = omega (arith, c.clear, c.spanned.beyond, z.inside);
            room = subst (λ (us : List Atom). to + t.words + length (words_of tab_words (resolve s us)) ≤ length m₂) (sym is)
                (omega (arith, ends, count, f.binds.within, k.only.size));
          }

      -- what the resolving writes is what becomes of the rest
      rest_written : {m₃ : List ℕ} {w : ℕ} → Resolved s m₂ m₃ (at + e) (n - e) (to + t.words) w
          → TabsAt (canonicalize s f.rest []).tabs m₃ (to + t.words) w
      rest_written {m₃} {w} y = subst (λ (us : List Atom). TabsAt (resolve s us) m₃ (to + t.words) w) is y.tabs

      pub canonical : {m₃ : List ℕ} {w : ℕ} → Resolved s m₂ m₃ (at + e) (n - e) (to + t.words) w
          → CanonicalAt s (atoms_in l at n) l m₃ at to d (record { words = t.words + w; binds = r })
      canonical {m₃} {w} y =
          let more : TabsAt (canonicalize s f.rest []).tabs m₃ (to + t.words) w = rest_written y in
          let end : to + t.words + w ≤ r = omega (arith, ends, more.size) in
          let o₂ : Only m m₂ (at + e) t.binds = k.only in
          let first : TabsAt f.written m₂ to t.words = kept_between f.tabs in
          let both : TabsAt (f.written ++ (canonicalize s f.rest []).tabs) m₃ to (t.words + w) =
          tabs_join f.written (canonicalize s f.rest []).tabs m₃ to t.words (to + t.words) w (tabs_before y.only first (omega arith)) more refl in
          let new : At (binding_words (canonicalize s f.rest []).repls) m₂ r =
          subst (λ (us : List Atom). At (binding_words (replace_all s us []).repls) m₂ r) rest_is k.binds in
          let old : At (binding_words f.rs) m₂ t.binds = at_after o₂ f.binds (omega arith) in
          let all : At (binding_words ((canonicalize s f.rest []).repls ++ f.rs)) m₂ r =
          subst (λ (ws : List ℕ). At ws m₂ r) (sym (bindings_append (canonicalize s f.rest []).repls f.rs))
          (at_join new old (omega (arith, count, bindings_size (canonicalize s f.rest []).repls))) in
          let repls = ap (λ (us : List Atom). (canonicalize s us []).repls) z.whole ∙ f.all_repls in
          let tabs = ap (λ (us : List Atom). (canonicalize s us []).tabs) z.whole ∙ f.all_tabs in
          record {
            tabs = subst (λ (ts : List Tab). TabsAt ts m₃ to (t.words + w)) (sym tabs) both;
            binds = subst (λ (rs : List Replacement). At (binding_words rs) m₃ r) (sym repls) (at_after y.only all end);
            count = subst (λ (rs : List Replacement). r + binding_size * length rs ≡ d) (sym repls)
                (omega (arith, count, f.count, length-append (canonicalize s f.rest []).repls f.rs));
            only = only_then f.only
                (only_then (only_wide at d o₂ (omega arith) (omega (arith, f.count)))
                (only_wide at d y.only (omega (arith, c.clear, c.spanned.beyond)) (omega (arith, f.count, count))));
          }
        where
          kept_between : TabsAt f.written m to t.words → TabsAt f.written m₂ to t.words
          kept_between x =
              record {
                fits = x.fits;
                bare = x.bare;
                size = x.size;
                at = k.between (words_of tab_words f.written) to x.at c.clear (omega (arith, x.size, ends));
                within = omega (arith, x.within, k.only.size);
              }
