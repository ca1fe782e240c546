-- The pieces that are read are objects or null, and some text stands for each.
use Rattle.std.proofs.Common.{◌≡◌, ℕ, ◌==◌, Bool, true, false, List, [], ◌∷◌, length, map, replicate, zero, suc, Option, Some, None, All, refl, ap, sym, subst, ◌∙◌, arith}
use Rattle.std.specs.Prelude.{if◌then◌else◌, ◌&&◌, Contains, codes, Result, Ok, Err, IfOk}
use Rattle.std.specs.List.{list_all}
use Rattle.std.specs.Result.{result_ok}
use Rattle.std.specs.Str.{bytes_eq}
use Rattle.std.proofs.lemmas.Bool.Decides.{nat_tests}
use Rattle.std.proofs.lemmas.Option.{same_Some}
use Rattle.std.proofs.lemmas.List.{length-replicate, length-map}
use Rattle.std.proofs.lemmas.List.Elements.{All-nil, All-cons, All-head, All-tail, All-weaker, All-replicate, All-contains_itself}
use Rattle.cache_terms.specs.declared.tags.Tags.{Tags}
use Rattle.cache_terms.specs.declared.tags.Tags.TheVariants as tags
use Rattle.cache_terms.specs.Tags.{tags_of}
use Rattle.json_value.specs.declared.tree.Json.{Json, out-Json}
use Rattle.json_value.specs.declared.tree.Json.TheVariants as json
use Rattle.json_value.specs.declared.tree.Json.TheOpen.{Json-F}
use Rattle.json_value.specs.Grammar.{IsText, strict, null}
use Rattle.json_value.specs.Members.{member, member_at, named, parts_of, parts_at, value_of}
use Rattle.json_value.specs.Laws.{HasText}
use Rattle.json_value.proofs.Cases.{out-null}
use Rattle.json_value.proofs.Inner.{part_text}
use Rattle.reply_read.specs.declared.replies.Sent.{Sent}
use Rattle.reply_read.specs.declared.replies.Sent.TheVariants as sent
use Rattle.reply_read.specs.declared.replies.Pieces.{Pieces}
use Rattle.reply_read.specs.declared.replies.ReplyFault.{ReplyFault}
use Rattle.reply_read.specs.declared.replies.ReplyFault.TheVariants as fault
use Rattle.reply_read.specs.Kinds.{is_object, is_piece, piece_by, is_strings, strings_of}
use Rattle.reply_read.specs.Errors.{error_texts}
use Rattle.reply_read.specs.Values.{count_of, data_of, data_in, entities_of, entities_in, values_of}
use Rattle.reply_read.specs.TagTexts.{common_texts, is_formed, malformed, all_or_malformed, piece_tags, own_in, tags_with, tags_beside, reply_tags}
use Rattle.reply_read.specs.Pieces.{ArePieces}
use Rattle.reply_read.specs.Replies.{GatheredPieces, held, is_some_list, with_values, with_data, with_errors, read_of, ReadsReply}

same_ok : {A E : Type 0} (x y : A) → ◌≡◌ {A = Result A E} (Ok x) (Ok y) → x ≡ y
same_ok x y h = same_Some x y (ap result_ok h)

-- PARTS

all_parts : (v : Json) → HasText strict v → All (HasText strict) (parts_of v)
all_parts v has = All-weaker (Contains (parts_of v)) (HasText strict) (λ x inside. part_text strict v x has inside) (parts_of v) (All-contains_itself (parts_of v))

named_has : (name : List ℕ) (ms : List (List ℕ × Json)) (w : Json) → All (HasText strict) (map value_of ms) → named name ms ≡ Some w → HasText strict w
named_has name [] w all h = absurd (cc h)
named_has name (m ∷ ms) w all h = by_test (named_has name ms w (All-tail (HasText strict) m.1 (map value_of ms) all)) (bytes_eq m.0 name) h
  where
    by_test : (named name ms ≡ Some w → HasText strict w) → (b : Bool) → (if b then Some m.1 else named name ms) ≡ Some w → HasText strict w
    by_test rest true is = subst (HasText strict) (same_Some m.1 w is) (All-head (HasText strict) m.1 (map value_of ms) all)
    by_test rest false is = rest is

member_in : (name : List ℕ) (o : Json-F Json) (w : Json) → All (HasText strict) (parts_at o) → member_at name o ≡ Some w → HasText strict w
member_in name (Json-F.Object ms) w all h = named_has name ms w all h
member_in name Json-F.Null w all h = absurd (cc h)
member_in name (Json-F.Bool b) w all h = absurd (cc h)
member_in name (Json-F.Number a) w all h = absurd (cc h)
member_in name (Json-F.Str t) w all h = absurd (cc h)
member_in name (Json-F.List xs) w all h = absurd (cc h)

-- some text stands for the value of a member
member_has : (v : Json) (name : List ℕ) (w : Json) → HasText strict v → member v name ≡ Some w → HasText strict w
member_has v name w has h = member_in name (out-Json v) w (all_parts v has) h

null_has : HasText strict json.Null
null_has = (codes "null", record { before = []; inner = codes "null"; after = []; parts = refl; before_is = tt; inner_is = null; after_is = tt })

-- VALUES

record AreValues (s : Sent) (values : List Json) : Type 0 where
  pub count : length values ≡ count_of s
  pub kinds : list_all is_piece values ≡ true
  pub texts : All (HasText strict) values

null_piece : is_piece json.Null ≡ true
null_piece = ap piece_by out-null

nulls_kind : (n : ℕ) → list_all is_piece (replicate n json.Null) ≡ true
nulls_kind zero = refl
nulls_kind (suc n) = ap (λ (b : Bool). b && list_all is_piece (replicate n json.Null)) null_piece ∙ nulls_kind n

nulls_are : (s : Sent) (n : ℕ) → n ≡ count_of s → AreValues s (replicate n json.Null)
nulls_are s n is = record { count = length-replicate n json.Null ∙ is; kinds = nulls_kind n; texts = All-replicate (HasText strict) n json.Null null_has }

one_is : (v : Json) → is_piece v ≡ true → HasText strict v → AreValues sent.Root (v ∷ [])
one_is v kind has = record { count = refl; kinds = ap (λ (b : Bool). b && true) kind; texts = All-cons (HasText strict) v [] has (All-nil (HasText strict)) }

listed_are : (n : ℕ) (xs values : List Json) → All (HasText strict) xs → entities_in n (Json-F.List xs) ≡ Ok values → AreValues (sent.Entities n) values
listed_are n xs values all h = by_count (length xs == n) refl h
  where
    by_kind : length xs ≡ n → (b : Bool) → list_all is_piece xs ≡ b → (if b then Ok xs else Err (fault.Shape (codes "entity"))) ≡ Ok values → AreValues (sent.Entities n) values
    by_kind many true kind is = subst (AreValues (sent.Entities n)) (same_ok xs values is) (record { count = many; kinds = kind; texts = all })
    by_kind many false kind is = absurd (cc is)

    by_count : (b : Bool) → (length xs == n) ≡ b → (if b then (if list_all is_piece xs then Ok xs else Err (fault.Shape (codes "entity"))) else Err (fault.Count (length xs) n)) ≡ Ok values → AreValues (sent.Entities n) values
    by_count true test is = by_kind (grind (arith, nat_tests)) (list_all is_piece xs) refl is
    by_count false test is = absurd (cc is)

entities_are : (n : ℕ) (o : Json-F Json) (values : List Json) → All (HasText strict) (parts_at o) → entities_in n o ≡ Ok values → AreValues (sent.Entities n) values
entities_are n (Json-F.List xs) values all h = listed_are n xs values all h
entities_are n Json-F.Null values all h = absurd (cc h)
entities_are n (Json-F.Bool b) values all h = absurd (cc h)
entities_are n (Json-F.Number a) values all h = absurd (cc h)
entities_are n (Json-F.Str t) values all h = absurd (cc h)
entities_are n (Json-F.Object ms) values all h = absurd (cc h)

entities_of_are : (n : ℕ) (found : Option Json) (values : List Json) → ((w : Json) → found ≡ Some w → HasText strict w) → entities_of n found ≡ Ok values → AreValues (sent.Entities n) values
entities_of_are n None values has h = absurd (cc h)
entities_of_are n (Some w) values has h = entities_are n (out-Json w) values (all_parts w (has w refl)) h

values_are : (s : Sent) (found : Option Json) (values : List Json) → ((w : Json) → found ≡ Some w → HasText strict w × (is_piece w ≡ true)) → values_of s found ≡ Ok values → AreValues s values
values_are sent.Root None values has h = subst (AreValues sent.Root) (same_ok (json.Null ∷ []) values h) (one_is json.Null null_piece null_has)
values_are sent.Root (Some v) values has h = subst (AreValues sent.Root) (same_ok (v ∷ []) values h) (one_is v (has v refl).1 (has v refl).0)
values_are (sent.Entities n) None values has h = subst (AreValues (sent.Entities n)) (same_ok (replicate n json.Null) values h) (nulls_are (sent.Entities n) n refl)
values_are (sent.Entities n) (Some v) values has h = entities_of_are n (member v (codes "_entities")) values (λ w is. member_has v (codes "_entities") w (has v refl).0 is) h

-- DATA

data_is : (failed : Bool) (v w : Json) (o : Json-F Json) → out-Json v ≡ o → data_in failed v o ≡ Some (Some w) → (v ≡ w) × (is_piece v ≡ true)
data_is failed v w (Json-F.Object ms) is h = (same_Some v w (same_Some (Some v) (Some w) h), ap piece_by is)
data_is true v w Json-F.Null is h = absurd (cc h)
data_is false v w Json-F.Null is h = absurd (cc h)
data_is failed v w (Json-F.Bool b) is h = absurd (cc h)
data_is failed v w (Json-F.Number a) is h = absurd (cc h)
data_is failed v w (Json-F.Str t) is h = absurd (cc h)
data_is failed v w (Json-F.List xs) is h = absurd (cc h)

data_has : (failed : Bool) (found : Option Json) (w : Json) → ((u : Json) → found ≡ Some u → HasText strict u) → data_of failed found ≡ Some (Some w) → HasText strict w × (is_piece w ≡ true)
data_has true None w has h = absurd (cc h)
data_has false None w has h = absurd (cc h)
data_has failed (Some v) w has h =
    let same = data_is failed v w (out-Json v) refl h in
    (subst (HasText strict) same.0 (has v refl), subst (λ (u : Json). is_piece u ≡ true) same.0 same.1)

-- TAGS

formed_length : (n : ℕ) (each : List Tags) → length each ≡ n → length (all_or_malformed n each) ≡ n
formed_length n each many = by_test (list_all is_formed each)
  where
    by_test : (b : Bool) → length (if b then each else malformed n) ≡ n
    by_test true = many
    by_test false = length-replicate n tags.Malformed

own_length : (n : ℕ) (common : List (List ℕ)) (o : Json-F Json) → length (own_in n common o) ≡ n
own_length n common (Json-F.List xs) = by_test (length xs == n) (list_all is_strings xs) refl
  where
    by_test : (a b : Bool) → (length xs == n) ≡ a → length (if a && b then all_or_malformed n (map (piece_tags common) xs) else malformed n) ≡ n
    by_test true true test = let many : length xs ≡ n = grind (arith, nat_tests) in formed_length n (map (piece_tags common) xs) (length-map xs (piece_tags common) ∙ many)
    by_test true false test = length-replicate n tags.Malformed
    by_test false true test = length-replicate n tags.Malformed
    by_test false false test = length-replicate n tags.Malformed
own_length n common Json-F.Null = length-replicate n tags.Malformed
own_length n common (Json-F.Bool b) = length-replicate n tags.Malformed
own_length n common (Json-F.Number a) = length-replicate n tags.Malformed
own_length n common (Json-F.Str t) = length-replicate n tags.Malformed
own_length n common (Json-F.Object ms) = length-replicate n tags.Malformed

with_length : (s : Sent) (common : List (List ℕ)) (own : Option Json) → length (tags_with s common own) ≡ count_of s
with_length s common None = formed_length (count_of s) (replicate (count_of s) (tags_of common)) (length-replicate (count_of s) (tags_of common))
with_length sent.Root common (Some own) = length-replicate 1 tags.Malformed
with_length (sent.Entities n) common (Some own) = own_length n common (out-Json own)

beside_length : (s : Sent) (common : Option (List (List ℕ))) (own : Option Json) → length (tags_beside s common own) ≡ count_of s
beside_length s None own = length-replicate (count_of s) tags.Malformed
beside_length s (Some common) own = with_length s common own

tags_length : (s : Sent) (found : Option Json) → length (reply_tags s found) ≡ count_of s
tags_length s None = with_length s [] None
tags_length s (Some e) = by_test (is_object e)
  where
    by_test : (b : Bool) → length (if b then tags_beside s (common_texts (member e (codes "cacheTags"))) (member e (codes "entityCacheTags")) else malformed (count_of s)) ≡ count_of s
    by_test true = beside_length s (common_texts (member e (codes "cacheTags"))) (member e (codes "entityCacheTags"))
    by_test false = length-replicate (count_of s) tags.Malformed

-- THE REPLY

held_values : (s : Sent) (ts : List Tags) (errors : List (List ℕ)) (r : Result (List Json) ReplyFault) (h : GatheredPieces) → length ts ≡ count_of s → ((values : List Json) → r ≡ Ok values → AreValues s values) → with_values ts errors r ≡ Ok h → ArePieces s h.values h.tags
held_values s ts errors (Err f) h many are is = absurd (cc is)
held_values s ts errors (Ok values) h many are is =
    let got = are values refl in
    subst (λ (x : GatheredPieces). ArePieces s x.values x.tags) (same_ok (record { values = values; tags = ts; errors = errors }) h is) (record { values_count = got.count; tags_count = many; kinds = got.kinds; texts = got.texts })

held_data : (s : Sent) (ts : List Tags) (errors : List (List ℕ)) (found : Option (Option Json)) (h : GatheredPieces) → length ts ≡ count_of s → ((w : Json) → found ≡ Some (Some w) → HasText strict w × (is_piece w ≡ true)) → with_data s ts errors found ≡ Ok h → ArePieces s h.values h.tags
held_data s ts errors None h many has is = absurd (cc is)
held_data s ts errors (Some found) h many has is = held_values s ts errors (values_of s found) h many (λ values got. values_are s found values (λ w there. has w (ap (λ (x : Option Json). Some x) there)) got) is

held_errors : (v : Json) (s : Sent) (errors : Option (List (List ℕ))) (h : GatheredPieces) → HasText strict v → with_errors v s errors ≡ Ok h → ArePieces s h.values h.tags
held_errors v s None h has is = absurd (cc is)
held_errors v s (Some errors) h has is =
    held_data s (reply_tags s (member v (codes "extensions"))) errors (data_of (is_some_list errors) (member v (codes "data"))) h (tags_length s (member v (codes "extensions")))
    (λ w there. data_has (is_some_list errors) (member v (codes "data")) w (λ u found. member_has v (codes "data") u has found) there) is

pub held_pieces : (v : Json) (s : Sent) (h : GatheredPieces) → HasText strict v → read_of v s ≡ Ok h → ArePieces s h.values h.tags
held_pieces v s h has is = by_test (is_object v) is
  where
    by_test : (b : Bool) → (if b then with_errors v s (error_texts (member v (codes "errors"))) else Err (fault.Shape [])) ≡ Ok h → ArePieces s h.values h.tags
    by_test true got = held_errors v s (error_texts (member v (codes "errors"))) h has got
    by_test false got = absurd (cc got)

-- what is read are pieces
pub pieces_read : (body : List ℕ) (s : Sent) (result : Result Pieces ReplyFault) → ReadsReply body s result → IfOk result (λ p. ArePieces s p.values.items p.tags.items)
pieces_read body s (Ok p) (v, text, is) = held_pieces v s (held p) (body, text) is
pieces_read body s (Err f) h = tt
