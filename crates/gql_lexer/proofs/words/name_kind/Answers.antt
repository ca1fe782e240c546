use Rattle.std.proofs.Common.{sym, ◌∙◌, refl}
use Rattle.std.specs.Prelude.{codes}
use Rattle.gql_tokens.specs.declared.kinds.Kind.TheVariants as k
use Rattle.gql_tokens.specs.Lexical.{name_kind}
use Rattle.gql_lexer.proofs.NameWords.{word_here, word_behind, behind_query, behind_mutation, behind_subscription, behind_fragment, behind_on, behind_true, behind_false, behind_null}
use Rattle.gql_lexer.proofs.words.name_kind.Goals as goal

pub returns-then-is_word : goal.returns-then-is_word
unfolding name_kind
returns-then-is_word c = sym (word_here c.args.text.now (codes "query") k.Query behind_query (sym c.is_word.ensures ∙ c.if-is_word.true))

pub returns-then-is_word-2 : goal.returns-then-is_word-2
unfolding name_kind
returns-then-is_word-2 c = sym (word_behind c.args.text.now (codes "query") k.Query k.Mutation behind_query (sym c.is_word.ensures ∙ c.if-is_word.false) (word_here c.args.text.now (codes "mutation") k.Mutation behind_mutation (sym c.is_word-2.ensures ∙ c.if-is_word-2.true)))

pub returns-then-is_word-3 : goal.returns-then-is_word-3
unfolding name_kind
returns-then-is_word-3 c = sym (word_behind c.args.text.now (codes "query") k.Query k.Subscription behind_query (sym c.is_word.ensures ∙ c.if-is_word.false) (word_behind c.args.text.now (codes "mutation") k.Mutation k.Subscription behind_mutation (sym c.is_word-2.ensures ∙ c.if-is_word-2.false) (word_here c.args.text.now (codes "subscription") k.Subscription behind_subscription (sym c.is_word-3.ensures ∙ c.if-is_word-3.true))))

pub returns-then-is_word-4 : goal.returns-then-is_word-4
unfolding name_kind
returns-then-is_word-4 c = sym (word_behind c.args.text.now (codes "query") k.Query k.Fragment behind_query (sym c.is_word.ensures ∙ c.if-is_word.false) (word_behind c.args.text.now (codes "mutation") k.Mutation k.Fragment behind_mutation (sym c.is_word-2.ensures ∙ c.if-is_word-2.false) (word_behind c.args.text.now (codes "subscription") k.Subscription k.Fragment behind_subscription (sym c.is_word-3.ensures ∙ c.if-is_word-3.false) (word_here c.args.text.now (codes "fragment") k.Fragment behind_fragment (sym c.is_word-4.ensures ∙ c.if-is_word-4.true)))))

pub returns-then-is_word-5 : goal.returns-then-is_word-5
unfolding name_kind
returns-then-is_word-5 c = sym (word_behind c.args.text.now (codes "query") k.Query k.On behind_query (sym c.is_word.ensures ∙ c.if-is_word.false) (word_behind c.args.text.now (codes "mutation") k.Mutation k.On behind_mutation (sym c.is_word-2.ensures ∙ c.if-is_word-2.false) (word_behind c.args.text.now (codes "subscription") k.Subscription k.On behind_subscription (sym c.is_word-3.ensures ∙ c.if-is_word-3.false) (word_behind c.args.text.now (codes "fragment") k.Fragment k.On behind_fragment (sym c.is_word-4.ensures ∙ c.if-is_word-4.false) (word_here c.args.text.now (codes "on") k.On behind_on (sym c.is_word-5.ensures ∙ c.if-is_word-5.true))))))

pub returns-then-is_word-6 : goal.returns-then-is_word-6
unfolding name_kind
returns-then-is_word-6 c = sym (word_behind c.args.text.now (codes "query") k.Query k.True behind_query (sym c.is_word.ensures ∙ c.if-is_word.false) (word_behind c.args.text.now (codes "mutation") k.Mutation k.True behind_mutation (sym c.is_word-2.ensures ∙ c.if-is_word-2.false) (word_behind c.args.text.now (codes "subscription") k.Subscription k.True behind_subscription (sym c.is_word-3.ensures ∙ c.if-is_word-3.false) (word_behind c.args.text.now (codes "fragment") k.Fragment k.True behind_fragment (sym c.is_word-4.ensures ∙ c.if-is_word-4.false) (word_behind c.args.text.now (codes "on") k.On k.True behind_on (sym c.is_word-5.ensures ∙ c.if-is_word-5.false) (word_here c.args.text.now (codes "true") k.True behind_true (sym c.is_word-6.ensures ∙ c.if-is_word-6.true)))))))

pub returns-then-is_word-7 : goal.returns-then-is_word-7
unfolding name_kind
returns-then-is_word-7 c = sym (word_behind c.args.text.now (codes "query") k.Query k.False behind_query (sym c.is_word.ensures ∙ c.if-is_word.false) (word_behind c.args.text.now (codes "mutation") k.Mutation k.False behind_mutation (sym c.is_word-2.ensures ∙ c.if-is_word-2.false) (word_behind c.args.text.now (codes "subscription") k.Subscription k.False behind_subscription (sym c.is_word-3.ensures ∙ c.if-is_word-3.false) (word_behind c.args.text.now (codes "fragment") k.Fragment k.False behind_fragment (sym c.is_word-4.ensures ∙ c.if-is_word-4.false) (word_behind c.args.text.now (codes "on") k.On k.False behind_on (sym c.is_word-5.ensures ∙ c.if-is_word-5.false) (word_behind c.args.text.now (codes "true") k.True k.False behind_true (sym c.is_word-6.ensures ∙ c.if-is_word-6.false) (word_here c.args.text.now (codes "false") k.False behind_false (sym c.is_word-7.ensures ∙ c.if-is_word-7.true))))))))

pub returns-then-is_word-8 : goal.returns-then-is_word-8
unfolding name_kind
returns-then-is_word-8 c = sym (word_behind c.args.text.now (codes "query") k.Query k.Null behind_query (sym c.is_word.ensures ∙ c.if-is_word.false) (word_behind c.args.text.now (codes "mutation") k.Mutation k.Null behind_mutation (sym c.is_word-2.ensures ∙ c.if-is_word-2.false) (word_behind c.args.text.now (codes "subscription") k.Subscription k.Null behind_subscription (sym c.is_word-3.ensures ∙ c.if-is_word-3.false) (word_behind c.args.text.now (codes "fragment") k.Fragment k.Null behind_fragment (sym c.is_word-4.ensures ∙ c.if-is_word-4.false) (word_behind c.args.text.now (codes "on") k.On k.Null behind_on (sym c.is_word-5.ensures ∙ c.if-is_word-5.false) (word_behind c.args.text.now (codes "true") k.True k.Null behind_true (sym c.is_word-6.ensures ∙ c.if-is_word-6.false) (word_behind c.args.text.now (codes "false") k.False k.Null behind_false (sym c.is_word-7.ensures ∙ c.if-is_word-7.false) (word_here c.args.text.now (codes "null") k.Null behind_null (sym c.is_word-8.ensures ∙ c.if-is_word-8.true)))))))))

pub returns : goal.returns
unfolding name_kind
returns c = sym (word_behind c.args.text.now (codes "query") k.Query k.Name behind_query (sym c.is_word.ensures ∙ c.if-is_word.false) (word_behind c.args.text.now (codes "mutation") k.Mutation k.Name behind_mutation (sym c.is_word-2.ensures ∙ c.if-is_word-2.false) (word_behind c.args.text.now (codes "subscription") k.Subscription k.Name behind_subscription (sym c.is_word-3.ensures ∙ c.if-is_word-3.false) (word_behind c.args.text.now (codes "fragment") k.Fragment k.Name behind_fragment (sym c.is_word-4.ensures ∙ c.if-is_word-4.false) (word_behind c.args.text.now (codes "on") k.On k.Name behind_on (sym c.is_word-5.ensures ∙ c.if-is_word-5.false) (word_behind c.args.text.now (codes "true") k.True k.Name behind_true (sym c.is_word-6.ensures ∙ c.if-is_word-6.false) (word_behind c.args.text.now (codes "false") k.False k.Name behind_false (sym c.is_word-7.ensures ∙ c.if-is_word-7.false) (word_behind c.args.text.now (codes "null") k.Null k.Name behind_null (sym c.is_word-8.ensures ∙ c.if-is_word-8.false) (refl)))))))))
