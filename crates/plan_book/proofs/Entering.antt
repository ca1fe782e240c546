-- Entries are read one after the other.
use Rattle.std.proofs.Common.{◌≡◌, ℕ, suc, ◌+◌, ◌<◌, ◌≤◌, List, [], ◌∷◌, ◌++◌, Ok, Err, Result, length, get_or, drop, drop-cons, add-one, append_assoc, refl, sym, ap, ◌∙◌, subst}
use Rattle.std.specs.Prelude.{map, not, Bool, true, false}
use Rattle.std.specs.List.{list_any}
use Rattle.std.specs.Str.{bytes_eq}
use Rattle.std.proofs.lemmas.List.{drop_all, append-nil, map-append}
use Rattle.json_value.specs.declared.tree.Json.{Json}
use Rattle.plan_book.specs.declared.book.Entry.{Entry}
use Rattle.plan_book.specs.declared.fault.PlanFault.{PlanFault}
use Rattle.plan_book.specs.declared.fault.PlanFault.TheVariants as fault
use Rattle.plan_book.specs.Book.{text_of, has_entry}
use Rattle.plan_book.proofs.Found.{has-any}
use Rattle.plan_book.specs.Nodes.{after}
use Rattle.plan_book.specs.PlanFile.{with_first_entry, IsEntry, IsNextEntry, AreEntries, no_more, stops, another}

abbrev pub behind : List Entry → List Entry → List Entry
behind done es = done ++ es

behind-none : (r : Result (List Entry) PlanFault) → after (behind []) r ≡ r
behind-none (Ok es) = refl
behind-none (Err f) = refl

behind-first : (done : List Entry) (e : Entry) (r : Result (List Entry) PlanFault) → after (behind (done ++ (e ∷ []))) r ≡ after (behind done) (after (with_first_entry e) r)
behind-first done e (Ok es) = ap (λ (xs : List Entry). Ok xs) (append_assoc done (e ∷ []) es)
behind-first done e (Err f) = refl

pub record EntriesRun (all rest : List Json) (n : ℕ) (done : List Entry) : Type 0 where
  pub goes : (r : Result (List Entry) PlanFault) → AreEntries rest n (map text_of done) r → AreEntries all 0 [] (after (behind done) r)

module _ (all : List Json) where
  pub entries_begin : EntriesRun all all 0 []
  entries_begin = record { goes = λ r h. rw (behind-none r) h }

  module _ (i : ℕ) (done : List Entry) (run : EntriesRun all (drop i all) i done) where
    module _ (v : Json) (within : i < length all) (is : v ≡ get_or all i v) where
      into : (r : Result (List Entry) PlanFault) → AreEntries (v ∷ drop (suc i) all) i (map text_of done) r → AreEntries all 0 [] (after (behind done) r)
      into = rw (drop-cons all i v within ∙ ap (λ (w : Json). w ∷ drop (suc i) all) (sym is)) at run.goes

      pub entries_next : (e : Entry) (more : List Entry) → IsNextEntry i (map text_of done) v (Ok e) → more ≡ done ++ (e ∷ []) → EntriesRun all (drop (i + 1) all) (i + 1) more
      entries_next e more h more_is =
          let texts : map text_of (done ++ (e ∷ [])) ≡ map text_of done ++ (e.text ∷ []) = map-append text_of done (e ∷ []) in
          rw (add-one, more_is) (record { goes = λ r k. rw (behind-first done e r) (into (after (with_first_entry e) r) (another h (subst (λ (ts : List (List ℕ)). AreEntries (drop (suc i) all) (suc i) ts r) texts k))) })

      pub entries_stop : (f : PlanFault) → IsNextEntry i (map text_of done) v (Err f) → AreEntries all 0 [] (Err f)
      entries_stop f h = into (Err f) (stops h)

    pub entries_end : length all ≤ i → AreEntries all 0 [] (Ok done)
    entries_end past =
        let before : (r : Result (List Entry) PlanFault) → AreEntries [] i (map text_of done) r → AreEntries all 0 [] (after (behind done) r) = rw (drop_all i all past) at run.goes in
        rw (append-nil done) at (before (Ok []) no_more)

-- ---- the next entry

pub not_there : (b : Bool) → not b ≡ true → b ≡ false
not_there true e = absurd cc
not_there false e = refl

pub is_there : (b : Bool) → not b ≡ false → b ≡ true
is_there true e = refl
is_there false e = absurd cc

module _ (n : ℕ) (done : List Entry) (v : Json) (e : Entry) (h : IsEntry n v (Ok e)) where
  pub joins : has_entry e.text done ≡ false → IsNextEntry n (map text_of done) v (Ok e)
  joins new =
      let none : list_any (bytes_eq e.text) (map text_of done) ≡ false = has-any e.text done ∙ new in
      record { alone = Ok e; entry_is = h; fresh_is = rw none refl }

  pub is_double : has_entry e.text done ≡ true → IsNextEntry n (map text_of done) v (Err (fault.Twice n))
  is_double there =
      let some : list_any (bytes_eq e.text) (map text_of done) ≡ true = has-any e.text done ∙ there in
      record { alone = Ok e; entry_is = h; fresh_is = rw some refl }
