use Rattle.std.specs.Prelude.{codes}
use Rattle.gql_tokens.specs.declared.kinds.Kind.TheVariants as k
use Rattle.gql_schema.proofs.GrowthWords.{word_added, words_over}
use Rattle.gql_schema.proofs.growing.add_kinds.Goals as goal

pub returns : goal.returns
returns c = word_added c.args.text.now (codes "query") k.Query _ _ _ _ c.in_ok-add_word.ensures (
    word_added c.args.text.now (codes "mutation") k.Mutation _ _ _ _ c.in_ok-add_word-2.ensures (
    word_added c.args.text.now (codes "subscription") k.Subscription _ _ _ _ c.in_ok-add_word-3.ensures (
    word_added c.args.text.now (codes "fragment") k.Fragment _ _ _ _ c.in_ok-add_word-4.ensures (
    word_added c.args.text.now (codes "on") k.On _ _ _ _ c.in_ok-add_word-5.ensures (
    word_added c.args.text.now (codes "true") k.True _ _ _ _ c.in_ok-add_word-6.ensures (
    word_added c.args.text.now (codes "false") k.False _ _ _ _ c.in_ok-add_word-7.ensures (
    word_added c.args.text.now (codes "null") k.Null _ _ _ _ c.in_ok-add_word-8.ensures (
    words_over c.args.text.now _))))))))
