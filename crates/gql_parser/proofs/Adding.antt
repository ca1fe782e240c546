-- Definitions that are added to a document.
use Rattle.std.proofs.Common.{◌≡◌, ℕ, zero, suc, ◌+◌, ◌-◌, ◌<◌, ◌≤◌, Bool, true, false, List, [], ◌∷◌, ◌++◌, length, Result, Ok, Err, refl, sym, ap, subst, ◌∙◌, arith, append_assoc}
use Rattle.std.proofs.lemmas.List.{append-nil}
use Rattle.std.proofs.lemmas.Bool.{cond-true, cond-false}
use Rattle.token_read.specs.Lexeme.{Lexeme}
use Rattle.token_read.specs.Parse.{Answer, Parser, and_then, bind, pure, sees, many_in, many}
use Rattle.token_read.specs.Productions.{ended}
use Rattle.gql_tokens.specs.declared.kinds.Kind.{Kind}
use Rattle.gql_tokens.specs.declared.kinds.Kind.TheVariants as k
use Rattle.gql_terms.specs.declared.documents.Document.{Document}
use Rattle.gql_terms.specs.declared.documents.Operation.{Operation}
use Rattle.gql_terms.specs.declared.documents.Fragment.{Fragment}
use Rattle.gql_terms.specs.declared.faults.Refusal.{Refusal}
use Rattle.gql_terms.specs.declared.faults.Refusal.TheVariants.{Unexpected, Deep}
use Rattle.gql_terms.specs.Grammar.{Rules, is, Definition, operation, fragment, operations, fragments, document_of}
use Rattle.gql_parser.specs.declared.tokens.Stop.{Stop}
use Rattle.gql_parser.specs.declared.tokens.Stop.TheVariants as stops
use Rattle.gql_parser.specs.Reading.{Reader, operation_definition, fragment_definition, definition, begins_definition, document, all}
use Rattle.gql_parser.specs.Reads.{Reads, prefixed, with_definition, AddsDefinition, withs, AddsAll}
use Rattle.gql_parser.proofs.Loops.{prefixed_none, item_refused}

pub defines_fragment : (r : Rules) (ts rest : List (Lexeme Kind)) (x : Fragment) → sees (is k.Fragment) ts ≡ true → fragment_definition r ts ≡ Ok (x, rest) → definition r ts ≡ Ok (fragment x, rest)
defines_fragment r ts rest x h e = cond-true _ _ _ h ∙ ap (λ (o : Answer Kind Refusal Fragment). and_then o (λ a. pure (fragment a))) e

pub defines_operation : (r : Rules) (ts rest : List (Lexeme Kind)) (x : Operation) → sees (is k.Fragment) ts ≡ false → operation_definition r ts ≡ Ok (x, rest) → definition r ts ≡ Ok (operation x, rest)
defines_operation r ts rest x h e = cond-false _ _ _ h ∙ ap (λ (o : Answer Kind Refusal Operation). and_then o (λ a. pure (operation a))) e

pub withs_last : (d : Document) (xs : List Definition) (x : Definition) → withs d (xs ++ (x ∷ [])) ≡ with_definition (withs d xs) x
withs_last d [] x = refl
withs_last d (y ∷ xs) x = withs_last (with_definition d y) xs x

abbrev made_of : List Operation → List Fragment → Document
made_of xs ys = record { operations = xs; fragments = ys }

pub withs_are : (d : Document) (xs : List Definition) → withs d xs ≡ record { operations = d.operations ++ operations xs; fragments = d.fragments ++ fragments xs }
withs_are d [] = ap (λ (q : List Operation). made_of q d.fragments) (sym (append-nil d.operations)) ∙ ap (λ (q : List Fragment). made_of (d.operations ++ []) q) (sym (append-nil d.fragments))
withs_are d (operation x ∷ xs) = withs_are (with_definition d (operation x)) xs ∙ ap (λ (q : List Operation). made_of q (d.fragments ++ fragments xs)) (append_assoc d.operations (x ∷ []) (operations xs))
withs_are d (fragment x ∷ xs) = withs_are (with_definition d (fragment x)) xs ∙ ap (λ (q : List Fragment). made_of (d.operations ++ operations xs) q) (append_assoc d.fragments (x ∷ []) (fragments xs))

pub loop_begins : (n : ℕ) (ts : List (Lexeme Kind)) (p : Reader Definition) → n ≡ length ts → prefixed [] (many_in begins_definition p (n - 0) ts) ≡ many begins_definition p ts
loop_begins n ts p e = let same : n - 0 ≡ length ts = omega arith in ap (λ (m : ℕ). prefixed [] (many_in begins_definition p m ts)) same ∙ prefixed_none (many_in begins_definition p (length ts) ts)

pub exits_all : (p : Reader Definition) (e : Stop) (xs : List Definition) (n i : ℕ) (ts rest : List (Lexeme Kind)) (old new old' new' : Document) (total : Answer Kind Refusal (List Definition)) → i < n → sees begins_definition ts ≡ true
    → AddsDefinition (p ts) (Err e) old new rest → prefixed xs (many_in begins_definition p (n - i) ts) ≡ total → AddsAll total (Err e) old' new' rest
exits_all p stops.Memory xs n i ts rest old new old' new' total lt h is so_far = tt
exits_all p (stops.Refused r) xs n i ts rest old new old' new' total lt h is so_far = item_refused begins_definition p xs n i ts (r, rest) total lt h is so_far

pub document_read : (r : Rules) (ts mid rest : List (Lexeme Kind)) (x : Definition) (xs : List Definition) (found : Document) (ops : List Operation) (frs : List Fragment) → ops ≡ [] → frs ≡ [] → definition r ts ≡ Ok (x, mid) → many begins_definition (definition r) mid ≡ Ok (xs, rest)
    → found ≡ withs (with_definition (made_of ops frs) x) xs → document r ts ≡ Ok (found, rest)
unfolding document
document_read r ts mid rest x xs found ops frs none nil first others made =
    let empty : made_of ops frs ≡ made_of [] [] = ap (λ (q : List Operation). made_of q frs) none ∙ ap (λ (q : List Fragment). made_of [] q) nil in
    let one : and_then (definition r ts) (λ y. bind (many begins_definition (definition r)) (λ ys. pure (y ∷ ys))) ≡ Ok (x ∷ xs, rest) =
    ap (λ (o : Answer Kind Refusal Definition). and_then o (λ y. bind (many begins_definition (definition r)) (λ ys. pure (y ∷ ys)))) first ∙ ap (λ (o : Answer Kind Refusal (List Definition)). and_then o (λ ys. pure (x ∷ ys))) others in
    ap (λ (o : Answer Kind Refusal (List Definition)). and_then o (λ ds. pure (document_of ds))) one ∙ ap (λ (q : Document). Ok (q, rest)) (sym (made ∙ ap (λ (q : Document). withs (with_definition q x) xs) empty ∙ withs_are (made_of [] []) (x ∷ xs)))

pub document_stops_first : (r : Rules) (ts : List (Lexeme Kind)) (e : Stop) (rest : List (Lexeme Kind)) (old new : Document) → AddsDefinition (definition r ts) (Err e) old new rest → Reads (document r ts) (Err e) rest
unfolding document
document_stops_first r ts stops.Memory rest old new h = tt
document_stops_first r ts (stops.Refused why) rest old new h =
    ap (λ (o : Answer Kind Refusal Definition). and_then (and_then o (λ y. bind (many begins_definition (definition r)) (λ ys. pure (y ∷ ys)))) (λ ds. pure (document_of ds))) h

pub document_stops_later : (r : Rules) (ts mid : List (Lexeme Kind)) (x : Definition) (e : Stop) (rest : List (Lexeme Kind)) (old new : Document) → definition r ts ≡ Ok (x, mid)
    → AddsAll (many begins_definition (definition r) mid) (Err e) old new rest → Reads (document r ts) (Err e) rest
unfolding document
document_stops_later r ts mid x stops.Memory rest old new first h = tt
document_stops_later r ts mid x (stops.Refused why) rest old new first h =
    ap (λ (o : Answer Kind Refusal Definition). and_then (and_then o (λ y. bind (many begins_definition (definition r)) (λ ys. pure (y ∷ ys)))) (λ ds. pure (document_of ds))) first
    ∙ ap (λ (o : Answer Kind Refusal (List Definition)). and_then (and_then o (λ ys. pure (x ∷ ys))) (λ ds. pure (document_of ds))) h

pub all_over : (r : Rules) (ts rest : List (Lexeme Kind)) (d : Document) → document r ts ≡ Ok (d, rest) → length rest ≡ 0 → all r ts ≡ Ok (d, rest)
all_over r ts [] d e n = ap (λ (o : Answer Kind Refusal Document). and_then o (λ a. ended Unexpected a)) e
all_over r ts (t ∷ rest) d e n = absurd (omega arith)

pub all_more : (r : Rules) (ts rest : List (Lexeme Kind)) (d : Document) → document r ts ≡ Ok (d, rest) → (length rest ≡ 0 → ⊥) → all r ts ≡ Err (Unexpected, rest)
all_more r ts [] d e n = absurd (n refl)
all_more r ts (t ∷ rest) d e n = ap (λ (o : Answer Kind Refusal Document). and_then o (λ a. ended Unexpected a)) e
