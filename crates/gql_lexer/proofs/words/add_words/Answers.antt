use Rattle.std.specs.Prelude.{codes}
use Rattle.gql_tokens.specs.declared.kinds.Kind.TheVariants as k
use Rattle.gql_lexer.proofs.NameWords.{word_added, words_over, behind_query, behind_mutation, behind_subscription, behind_fragment, behind_on, behind_true, behind_false, behind_null}
use Rattle.gql_lexer.proofs.words.add_words.Goals as goal

pub returns : goal.returns
returns c = word_added c.args.text.now (codes "query") k.Query _ _ _ behind_query c.in_ok-add_word.ensures (word_added c.args.text.now (codes "mutation") k.Mutation _ _ _ behind_mutation c.in_ok-add_word-2.ensures (word_added c.args.text.now (codes "subscription") k.Subscription _ _ _ behind_subscription c.in_ok-add_word-3.ensures (word_added c.args.text.now (codes "fragment") k.Fragment _ _ _ behind_fragment c.in_ok-add_word-4.ensures (word_added c.args.text.now (codes "on") k.On _ _ _ behind_on c.in_ok-add_word-5.ensures (word_added c.args.text.now (codes "true") k.True _ _ _ behind_true c.in_ok-add_word-6.ensures (word_added c.args.text.now (codes "false") k.False _ _ _ behind_false c.in_ok-add_word-7.ensures (word_added c.args.text.now (codes "null") k.Null _ _ _ behind_null c.in_ok-add_word-8.ensures (words_over c.args.text.now _))))))))
