-- Values are read exactly.
use Rattle.std.proofs.Common.{◌≡◌, ℕ, zero, suc, Bool, true, false, cond, List, [], ◌∷◌, ◌++◌, Option, Some, None, Ok, Err, refl, sym, ap, subst, ◌∙◌, append_assoc, ◌⊎◌, inl, inr}
use Rattle.std.specs.Prelude.{◌||◌, not}
use Rattle.std.proofs.lemmas.Bool.{or_parts, or_from}
use Rattle.token_read.specs.Lexeme.{Lexeme}
use Rattle.token_read.specs.Parse.{bind, pure, refuse, one, sees, choose, many}
use Rattle.token_read.specs.Exact.{Stops, Token, Either, Each, IsExact}
use Rattle.token_read.specs.Productions.{Grammar, Text, After, Before, Enclosed, Both, Made, Optional, Several, text, after, before, both, made, optional, several}
use Rattle.token_read.proofs.Exact.{choose_is_exact, barred_is_exact, retyped}
use Rattle.token_read.proofs.Productions.{BeginsWith, Clear, Apart, Within, never, never_stops, clear_begins, clear_optional, clear_each, clear_both, clear_made, begins_after, begins_both, begins_made, begins_text, Has, lengthened, made_exact, text_exact, after_exact, before_exact, enclosed_exact, both_exact, optional_exact, each_exact, several_exact}
use Rattle.token_read.proofs.Exact.{one_is_exact}
use Rattle.gql_tokens.specs.declared.kinds.Kind.{Kind}
use Rattle.gql_tokens.specs.declared.kinds.Kind.TheVariants as k
use Rattle.gql_tokens.specs.KindTests.{same_kind, is_name, is_fragment_name}
use Rattle.gql_tokens.specs.Lexical.{IsReal}
use Rattle.gql_tokens.proofs.Samples.{same_is, same_refl, sample}
use Rattle.gql_terms.specs.declared.documents.Value.{Value}
use Rattle.gql_terms.specs.declared.documents.Value.TheVariants as v
use Rattle.gql_terms.specs.declared.faults.Refusal.{Refusal}
use Rattle.gql_terms.specs.declared.faults.Refusal.TheVariants.{Unexpected, Deep}
use Rattle.gql_terms.specs.Grammar.{Rules, Rule, is, is_enum_name, IsLeaf, number, string, block, yes, no, null, enum, Leaf, Variable, Simple, Pair, ListOf, ObjectOf, IsValue}
use Rattle.gql_parser.specs.Reading.{Reader, token, past, until, name, leaf_of, is_leaf, leaf, variable, simple, begins_value, pair, list_of, object_of, value}

abbrev pub Exact : {A : Type 0} → (Kind → Bool) → Reader A → Rule A → Type 0
Exact goes p G = IsExact IsReal goes p G

-- ---- tests of kinds

pub has : (kind : Kind) → Has {R = Refusal} IsReal Unexpected (is kind)
has kind = let s = sample kind in (s.0, ap (same_kind kind) s.1 ∙ same_refl kind, s.2)

pub has_by : (test : Kind → Bool) (kind : Kind) → test kind ≡ true → Has {R = Refusal} IsReal Unexpected test
has_by test kind e = let s = sample kind in (s.0, ap test s.1 ∙ e, s.2)

pub apart_is : (kind : Kind) (goes : Kind → Bool) → goes kind ≡ false → Apart (is kind) goes
apart_is kind goes e other h = subst (λ (x : Kind). goes x ≡ false) (same_is kind other h) e

pub apart_name : (goes : Kind → Bool) → goes k.Query ≡ false → goes k.Mutation ≡ false → goes k.Subscription ≡ false → goes k.Fragment ≡ false → goes k.On ≡ false → goes k.True ≡ false → goes k.False ≡ false → goes k.Null ≡ false
    → goes k.Name ≡ false → Apart is_name goes
apart_name goes a b c d e f g h i k.Query is = a
apart_name goes a b c d e f g h i k.Mutation is = b
apart_name goes a b c d e f g h i k.Subscription is = c
apart_name goes a b c d e f g h i k.Fragment is = d
apart_name goes a b c d e f g h i k.On is = e
apart_name goes a b c d e f g h i k.True is = f
apart_name goes a b c d e f g h i k.False is = g
apart_name goes a b c d e f g h i k.Null is = h
apart_name goes a b c d e f g h i k.Name is = i
apart_name goes a b c d e f g h i _ is = absurd cc

pub apart_never : (test : Kind → Bool) → Apart test never
apart_never test other h = refl

pub never_within : (goes : Kind → Bool) → Within never goes
never_within goes other h = refl

pub itself : (goes : Kind → Bool) → Within goes goes
itself goes other h = h

-- ---- productions over kinds

pub past_exact : {A : Type 0} (goes : Kind → Bool) (kind : Kind) (p : Reader A) (G : Rule A) → Exact goes p G → Exact goes (past kind p) (After (is kind) G)
past_exact goes kind p G exact = after_exact IsReal Unexpected goes (is kind) p G (has kind) exact

pub until_exact : {A : Type 0} (goes go_on : Kind → Bool) (kind : Kind) (p : Reader A) (G : Rule A) → goes kind ≡ false → Exact goes p G → Exact go_on (until p kind) (Before G (is kind))
until_exact goes go_on kind p G e exact = before_exact IsReal Unexpected goes go_on (is kind) p G (has kind) (apart_is kind goes e) exact

pub name_exact : (goes : Kind → Bool) → Exact goes name (Text is_name)
name_exact goes = text_exact IsReal Unexpected goes is_name (has_by is_name k.Name refl)

-- ---- leaves

leaf_is : (const : Bool) (kind : Kind) (a : List ℕ) → is_leaf const kind ≡ true → IsLeaf const (leaf_of kind a) kind a
leaf_is const k.Number a e = number
leaf_is const k.Str a e = string
leaf_is false k.Block a e = block refl
leaf_is true k.Block a e = absurd cc
leaf_is const k.True a e = yes
leaf_is const k.False a e = no
leaf_is const k.Null a e = null
leaf_is const k.Query a e = enum k.Query refl
leaf_is const k.Mutation a e = enum k.Mutation refl
leaf_is const k.Subscription a e = enum k.Subscription refl
leaf_is const k.Fragment a e = enum k.Fragment refl
leaf_is const k.On a e = enum k.On refl
leaf_is const k.Name a e = enum k.Name refl
leaf_is const _ a e = absurd cc

enum_back : (const : Bool) (kind : Kind) (a : List ℕ) → is_enum_name kind ≡ true → (v.EnumName a ≡ leaf_of kind a) × (is_leaf const kind ≡ true)
enum_back const k.Query a e = (refl, refl)
enum_back const k.Mutation a e = (refl, refl)
enum_back const k.Subscription a e = (refl, refl)
enum_back const k.Fragment a e = (refl, refl)
enum_back const k.On a e = (refl, refl)
enum_back const k.Name a e = (refl, refl)
enum_back const _ a e = absurd cc

leaf_back : (const : Bool) (x : Value) (kind : Kind) (a : List ℕ) → IsLeaf const x kind a → (x ≡ leaf_of kind a) × (is_leaf const kind ≡ true)
leaf_back const _ _ a number = (refl, refl)
leaf_back const _ _ a string = (refl, refl)
leaf_back const _ _ a (block e) = (refl, ap not e)
leaf_back const _ _ a yes = (refl, refl)
leaf_back const _ _ a no = (refl, refl)
leaf_back const _ _ a null = (refl, refl)
leaf_back const _ _ a (enum kind e) = enum_back const kind a e

leaf_exact : (goes : Kind → Bool) (const : Bool) → Exact goes (leaf const) (Leaf const)
leaf_exact goes const = retyped IsReal goes (leaf const) (Made (λ (t : Lexeme Kind). leaf_of t.kind t.text) (Token (is_leaf const))) (Leaf const)
    (λ x ts g. (g.0, subst (λ (q : Value). IsLeaf const q g.0.kind g.0.text) (sym g.1) (leaf_is const g.0.kind g.0.text g.2.0), g.2.1))
    (λ x ts g. let b = leaf_back const x g.0.kind g.0.text g.1 in (g.0, b.0, (b.1, g.2)))
    (made_exact IsReal Unexpected goes (λ (t : Lexeme Kind). leaf_of t.kind t.text) (one Unexpected (is_leaf const)) (Token (is_leaf const)) (token_exact h))
  where
    h : Has {R = Refusal} IsReal Unexpected (is_leaf const)
    h = has_by (is_leaf const) k.Number refl

    token_exact : Has {R = Refusal} IsReal Unexpected (is_leaf const) → Exact goes (one Unexpected (is_leaf const)) (Token (is_leaf const))
    token_exact h = one_is_exact IsReal Unexpected goes (is_leaf const) h.0 h.1 h.2

leaf_begins : (const : Bool) → BeginsWith (is_leaf const) (Leaf const)
leaf_begins const x ts g = ap (sees (is_leaf const)) g.2 ∙ (leaf_back const x g.0.kind g.0.text g.1).1

-- ---- values without levels

variable_exact : (goes : Kind → Bool) → Exact goes variable Variable
variable_exact goes = made_exact IsReal Unexpected goes v.Variable (past k.Dollar name) (After (is k.Dollar) (Text is_name)) (past_exact goes k.Dollar name (Text is_name) (name_exact goes))

variable_begins : BeginsWith (is k.Dollar) Variable
variable_begins = begins_made (is k.Dollar) v.Variable (After (is k.Dollar) (Text is_name)) (begins_after (is k.Dollar) (Text is_name))

leaf_apart : (const : Bool) (goes : Kind → Bool) → goes k.Number ≡ false → goes k.Str ≡ false → goes k.Block ≡ false → Apart is_name goes → Apart (is_leaf const) goes
leaf_apart const goes a b c names k.Number e = a
leaf_apart const goes a b c names k.Str e = b
leaf_apart const goes a b c names k.Block e = c
leaf_apart const goes a b c names k.Query e = names k.Query refl
leaf_apart const goes a b c names k.Mutation e = names k.Mutation refl
leaf_apart const goes a b c names k.Subscription e = names k.Subscription refl
leaf_apart const goes a b c names k.Fragment e = names k.Fragment refl
leaf_apart const goes a b c names k.On e = names k.On refl
leaf_apart const goes a b c names k.True e = names k.True refl
leaf_apart const goes a b c names k.False e = names k.False refl
leaf_apart const goes a b c names k.Null e = names k.Null refl
leaf_apart const goes a b c names k.Name e = names k.Name refl
leaf_apart const goes a b c names _ e = absurd cc

simple_exact : (goes : Kind → Bool) (const : Bool) → Exact goes (simple const) (Simple const)
simple_exact goes true = leaf_exact goes true
simple_exact goes false = choose_is_exact IsReal goes (is k.Dollar) variable (leaf false) Variable (Leaf false) (variable_exact goes) (leaf_exact goes false) variable_begins
    (clear_begins (is k.Dollar) goes (is_leaf false) (Leaf false) (leaf_begins false) (leaf_apart false (is k.Dollar) refl refl refl (apart_name (is k.Dollar) refl refl refl refl refl refl refl refl refl)))

-- a simple value does not begin with this bracket
simple_clear : (const : Bool) (kind : Kind) (go_on : Kind → Bool) → is kind k.Dollar ≡ false → Apart (is_leaf const) (is kind) → Clear (is kind) go_on (Simple const)
simple_clear true kind go_on d apart x ts rest g ends = clear_begins (is kind) go_on (is_leaf true) (Leaf true) (leaf_begins true) apart x ts rest g ends
simple_clear false kind go_on d apart x ts rest (inl g) ends = clear_begins (is kind) go_on (is k.Dollar) Variable variable_begins (apart_is k.Dollar (is kind) d) x ts rest g ends
simple_clear false kind go_on d apart x ts rest (inr g) ends = clear_begins (is kind) go_on (is_leaf false) (Leaf false) (leaf_begins false) apart x ts rest g ends

bracket_clear : (const : Bool) (go_on : Kind → Bool) → Clear (is k.OpenBracket) go_on (Simple const)
bracket_clear const go_on = simple_clear const k.OpenBracket go_on refl (leaf_apart const (is k.OpenBracket) refl refl refl (apart_name (is k.OpenBracket) refl refl refl refl refl refl refl refl refl))

brace_clear : (const : Bool) (go_on : Kind → Bool) → Clear (is k.OpenBrace) go_on (Simple const)
brace_clear const go_on = simple_clear const k.OpenBrace go_on refl (leaf_apart const (is k.OpenBrace) refl refl refl (apart_name (is k.OpenBrace) refl refl refl refl refl refl refl refl refl))

-- ---- pairs, lists and objects

pub pair_exact : (goes : Kind → Bool) (p : Reader Value) (G : Rule Value) → Exact goes p G → Exact goes (pair p) (Pair G)
pair_exact goes p G exact = both_exact IsReal Unexpected never goes name (Text is_name) (past k.Colon p) (After (is k.Colon) G) (λ a w rest g ends. never_stops (w ++ rest)) (name_exact never) (past_exact goes k.Colon p G exact)

pub pair_begins : (G : Rule Value) → BeginsWith is_name (Pair G)
pair_begins G = begins_both is_name (Text is_name) (After (is k.Colon) G) (begins_text is_name)

pub list_exact : (const : Bool) (p : Reader Value) (G : Rule Value) → BeginsWith (begins_value const) G → Exact never p G → Exact never (list_of const p) (ListOf G)
list_exact const p G begins exact = made_exact IsReal Unexpected never v.List (past k.OpenBracket (until (many (begins_value const) p) k.CloseBracket)) (Enclosed (is k.OpenBracket) (Each G) (is k.CloseBracket))
    (past_exact never k.OpenBracket (until (many (begins_value const) p) k.CloseBracket) (Before (Each G) (is k.CloseBracket))
    (until_exact (begins_value const) never k.CloseBracket (many (begins_value const) p) (Each G) refl
    (each_exact IsReal Unexpected never (begins_value const) (begins_value const) p G begins (apart_never (begins_value const)) (never_within (begins_value const)) (itself (begins_value const)) exact)))

pub list_begins : (G : Rule Value) → BeginsWith (is k.OpenBracket) (ListOf G)
list_begins G = begins_made (is k.OpenBracket) v.List (Enclosed (is k.OpenBracket) (Each G) (is k.CloseBracket)) (begins_after (is k.OpenBracket) (Before (Each G) (is k.CloseBracket)))

pub object_exact : (p : Reader Value) (G : Rule Value) → Exact never p G → Exact never (object_of p) (ObjectOf G)
object_exact p G exact = made_exact IsReal Unexpected never v.Object (past k.OpenBrace (until (many is_name (pair p)) k.CloseBrace)) (Enclosed (is k.OpenBrace) (Each (Pair G)) (is k.CloseBrace))
    (past_exact never k.OpenBrace (until (many is_name (pair p)) k.CloseBrace) (Before (Each (Pair G)) (is k.CloseBrace))
    (until_exact is_name never k.CloseBrace (many is_name (pair p)) (Each (Pair G)) refl
    (each_exact IsReal Unexpected never is_name is_name (pair p) (Pair G) (pair_begins G) (apart_never is_name) (never_within is_name) (itself is_name) (pair_exact never p G exact))))

pub object_begins : (G : Rule Value) → BeginsWith (is k.OpenBrace) (ObjectOf G)
object_begins G = begins_made (is k.OpenBrace) v.Object (Enclosed (is k.OpenBrace) (Each (Pair G)) (is k.CloseBrace)) (begins_after (is k.OpenBrace) (Before (Each (Pair G)) (is k.CloseBrace)))

-- ---- what a value begins with

sees_more : (test more : Kind → Bool) → ((kind : Kind) → test kind ≡ true → more kind ≡ true) → (ts : List (Lexeme Kind)) → sees test ts ≡ true → sees more ts ≡ true
sees_more test more to [] h = absurd cc
sees_more test more to (t ∷ ts) h = to t.kind h

leaf_opens : (const : Bool) (kind : Kind) → is_leaf const kind ≡ true → begins_value const kind ≡ true
leaf_opens const k.Dollar h = absurd cc
leaf_opens const k.OpenBracket h = refl
leaf_opens const k.OpenBrace h = refl
leaf_opens const k.Number h = refl
leaf_opens const k.Str h = refl
leaf_opens const k.Block h = h
leaf_opens const k.Query h = refl
leaf_opens const k.Mutation h = refl
leaf_opens const k.Subscription h = refl
leaf_opens const k.Fragment h = refl
leaf_opens const k.On h = refl
leaf_opens const k.True h = refl
leaf_opens const k.False h = refl
leaf_opens const k.Null h = refl
leaf_opens const k.Name h = refl
leaf_opens const _ h = absurd cc

opens_by : (const : Bool) (kind : Kind) → begins_value const kind ≡ true → (other : Kind) → is kind other ≡ true → begins_value const other ≡ true
opens_by const kind e other h = subst (λ (x : Kind). begins_value const x ≡ true) (same_is kind other h) e

simple_begins : (const : Bool) → BeginsWith (begins_value const) (Simple const)
simple_begins true x ts g = sees_more (is_leaf true) (begins_value true) (leaf_opens true) ts (leaf_begins true x ts g)
simple_begins false x ts (inl g) = sees_more (is k.Dollar) (begins_value false) (opens_by false k.Dollar refl) ts (variable_begins x ts g)
simple_begins false x ts (inr g) = sees_more (is_leaf false) (begins_value false) (leaf_opens false) ts (leaf_begins false x ts g)

pub value_begins : (const : Bool) (room : ℕ) → BeginsWith (begins_value const) (IsValue const room)
unfolding IsValue
value_begins const zero x ts g = simple_begins const x ts g
value_begins const (suc room) x ts (inl g) = sees_more (is k.OpenBracket) (begins_value const) (opens_by const k.OpenBracket refl) ts (list_begins (IsValue const room) x ts g)
value_begins const (suc room) x ts (inr (inl g)) = sees_more (is k.OpenBrace) (begins_value const) (opens_by const k.OpenBrace refl) ts (object_begins (IsValue const room) x ts g)
value_begins const (suc room) x ts (inr (inr g)) = simple_begins const x ts g

-- ---- values

rest_clear : (const : Bool) (G : Rule Value) → Clear (is k.OpenBracket) never (Either (ObjectOf G) (Simple const))
rest_clear const G x ts rest (inl g) ends = clear_begins (is k.OpenBracket) never (is k.OpenBrace) (ObjectOf G) (object_begins G) (apart_is k.OpenBrace (is k.OpenBracket) refl) x ts rest g ends
rest_clear const G x ts rest (inr g) ends = bracket_clear const never x ts rest g ends

pub value_exact : (const : Bool) (room : ℕ) → Exact never (value const room) (IsValue const room)
unfolding value IsValue
value_exact const zero = barred_is_exact IsReal never (is k.OpenBracket) Deep (choose (is k.OpenBrace) (refuse Deep) (simple const)) (Simple const)
    (barred_is_exact IsReal never (is k.OpenBrace) Deep (simple const) (Simple const) (simple_exact never const) (brace_clear const never)) (bracket_clear const never)
value_exact const (suc room) = choose_is_exact IsReal never (is k.OpenBracket) (list_of const (value const room)) (choose (is k.OpenBrace) (object_of (value const room)) (simple const)) (ListOf (IsValue const room))
    (Either (ObjectOf (IsValue const room)) (Simple const))
    (list_exact const (value const room) (IsValue const room) (value_begins const room) (value_exact const room))
    (choose_is_exact IsReal never (is k.OpenBrace) (object_of (value const room)) (simple const) (ObjectOf (IsValue const room)) (Simple const) (object_exact (value const room) (IsValue const room) (value_exact const room)) (simple_exact never const)
    (object_begins (IsValue const room)) (brace_clear const never))
    (list_begins (IsValue const room)) (rest_clear const (IsValue const room))
