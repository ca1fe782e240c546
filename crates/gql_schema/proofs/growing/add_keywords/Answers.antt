use Rattle.std.specs.Prelude.{codes}
use Rattle.gql_tokens.specs.declared.kinds.Kind.TheVariants as k
use Rattle.gql_schema.proofs.GrowthWords.{word_added, words_over}
use Rattle.gql_schema.proofs.growing.add_keywords.Goals as goal

pub returns : goal.returns
returns c = word_added c.args.text.now (codes "schema") k.Name _ _ _ _ c.in_ok-add_word.ensures (
    word_added c.args.text.now (codes "scalar") k.Name _ _ _ _ c.in_ok-add_word-2.ensures (
    word_added c.args.text.now (codes "type") k.Name _ _ _ _ c.in_ok-add_word-3.ensures (
    word_added c.args.text.now (codes "interface") k.Name _ _ _ _ c.in_ok-add_word-4.ensures (
    word_added c.args.text.now (codes "union") k.Name _ _ _ _ c.in_ok-add_word-5.ensures (
    word_added c.args.text.now (codes "enum") k.Name _ _ _ _ c.in_ok-add_word-6.ensures (
    word_added c.args.text.now (codes "input") k.Name _ _ _ _ c.in_ok-add_word-7.ensures (
    word_added c.args.text.now (codes "directive") k.Name _ _ _ _ c.in_ok-add_word-8.ensures (
    word_added c.args.text.now (codes "implements") k.Name _ _ _ _ c.in_ok-add_word-9.ensures (
    word_added c.args.text.now (codes "repeatable") k.Name _ _ _ _ c.in_ok-add_word-10.ensures (
    word_added c.args.text.now (codes "Query") k.Name _ _ _ _ c.in_ok-add_word-11.ensures (
    word_added c.args.text.now (codes "Mutation") k.Name _ _ _ _ c.in_ok-add_word-12.ensures (
    words_over c.args.text.now _))))))))))))
