use Rattle.std.specs.Prelude.{codes}
use Rattle.gql_tokens.specs.declared.kinds.Kind.TheVariants as k
use Rattle.gql_schema.proofs.GrowthWords.{word_added, words_over}
use Rattle.gql_schema.proofs.growing.add_locations.Goals as goal

pub returns : goal.returns
returns c = word_added c.args.text.now (codes "QUERY") k.Name _ _ _ _ c.in_ok-add_word.ensures (
    word_added c.args.text.now (codes "MUTATION") k.Name _ _ _ _ c.in_ok-add_word-2.ensures (
    word_added c.args.text.now (codes "SUBSCRIPTION") k.Name _ _ _ _ c.in_ok-add_word-3.ensures (
    word_added c.args.text.now (codes "FIELD") k.Name _ _ _ _ c.in_ok-add_word-4.ensures (
    word_added c.args.text.now (codes "FRAGMENT_DEFINITION") k.Name _ _ _ _ c.in_ok-add_word-5.ensures (
    word_added c.args.text.now (codes "FRAGMENT_SPREAD") k.Name _ _ _ _ c.in_ok-add_word-6.ensures (
    word_added c.args.text.now (codes "INLINE_FRAGMENT") k.Name _ _ _ _ c.in_ok-add_word-7.ensures (
    word_added c.args.text.now (codes "VARIABLE_DEFINITION") k.Name _ _ _ _ c.in_ok-add_word-8.ensures (
    word_added c.args.text.now (codes "SCHEMA") k.Name _ _ _ _ c.in_ok-add_word-9.ensures (
    word_added c.args.text.now (codes "SCALAR") k.Name _ _ _ _ c.in_ok-add_word-10.ensures (
    word_added c.args.text.now (codes "OBJECT") k.Name _ _ _ _ c.in_ok-add_word-11.ensures (
    word_added c.args.text.now (codes "FIELD_DEFINITION") k.Name _ _ _ _ c.in_ok-add_word-12.ensures (
    word_added c.args.text.now (codes "ARGUMENT_DEFINITION") k.Name _ _ _ _ c.in_ok-add_word-13.ensures (
    word_added c.args.text.now (codes "INTERFACE") k.Name _ _ _ _ c.in_ok-add_word-14.ensures (
    word_added c.args.text.now (codes "UNION") k.Name _ _ _ _ c.in_ok-add_word-15.ensures (
    word_added c.args.text.now (codes "ENUM") k.Name _ _ _ _ c.in_ok-add_word-16.ensures (
    word_added c.args.text.now (codes "ENUM_VALUE") k.Name _ _ _ _ c.in_ok-add_word-17.ensures (
    word_added c.args.text.now (codes "INPUT_OBJECT") k.Name _ _ _ _ c.in_ok-add_word-18.ensures (
    word_added c.args.text.now (codes "INPUT_FIELD_DEFINITION") k.Name _ _ _ _ c.in_ok-add_word-19.ensures (
    words_over c.args.text.now _)))))))))))))))))))
