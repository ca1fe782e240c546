use Rattle.std.proofs.Common.{rules, ◌≡◌, ℕ, ◌≤◌, ◌++◌, ◌∷◌, [], ◌∙◌, length, map, string_bytes, arith, List, sym, subst}
use Rattle.std.proofs.lemmas.Result.{IfOk-weaker}
use Rattle.gql_print.specs.Words as w
use Rattle.gql_print.specs.Canonical.{spaced, canonical_text, IsText}
use Rattle.gql_print.proofs.Appending.{and_then, popped}
use Rattle.gql_print.proofs.Reading.{text_again}
use Rattle.gql_print.proofs.definitions.canonical.Goals as goal

pub returns-clause-text : goal.returns-clause-text
returns-clause-text c =
    let e1 : string_bytes c.put_operations.new.out ≡ [] ++ spaced (w.joined (map w.operation_words c.args.document.now.operations)) = search rules in
    let e2 : string_bytes c.put_fragments.new.out ≡ string_bytes c.put_operations.new.out ++ spaced (w.joined (map w.fragment_words c.args.document.now.fragments)) = search rules in
    let few : length (string_bytes c.pop.new.self) ≤ c.put_fragments.new.out.bytes.len = omega (arith, c.pop.ensures.bound, c.pop.new.self.bytes.ok.0) in
    let made : string_bytes c.pop.new.self ≡ canonical_text c.args.document.now =
    popped c.args.document.now (string_bytes c.put_fragments.new.out) (string_bytes c.pop.new.self) c.put_fragments.new.out.bytes.len
    (and_then [] (string_bytes c.put_operations.new.out) (string_bytes c.put_fragments.new.out) (w.joined (map w.operation_words c.args.document.now.operations)) (w.joined (map w.fragment_words c.args.document.now.fragments)) e1 e2)
    c.put_fragments.new.out.bytes.ok.0 few c.pop.ensures.ascii_bytes in
    IfOk-weaker c.from_string.result _ _ (λ t same. same ∙ made) c.from_string.ensures

pub returns-clause-reads_back : goal.returns-clause-reads_back
returns-clause-reads_back c =
    IfOk-weaker c.from_string.result _ _ (λ t same other bytes is.
    subst (λ (q : List ℕ). IsText c.args.document.now q) (sym same) (text_again c.args.document.now other bytes is)) (returns-clause-text c)
