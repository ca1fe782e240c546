-- How the answer for a value is put together.
use Rattle.std.proofs.Common.{◌≡◌, ◌⊎◌, inl, inr, ℕ, Bool, true, false, List, [], ◌∷◌, Option, Some, None, refl, ap, sym, subst, ◌∙◌, ◌≢◌, ◌==◌, length, arith, eq-eqb}
use Rattle.std.proofs.lemmas.Bool.Decides.{nat_tests}
use Rattle.std.specs.Prelude.{if◌then◌else◌, not, codes, Result, Ok, Err}
use Rattle.cache_terms.specs.declared.tags.Tags.{Tags}
use Rattle.json_value.specs.declared.tree.Json.{Json}
use Rattle.json_value.specs.Members.{member}
use Rattle.reply_read.specs.declared.replies.Sent.{Sent}
use Rattle.reply_read.specs.declared.replies.Pieces.{Pieces}
use Rattle.reply_read.specs.declared.replies.ReplyFault.{ReplyFault}
use Rattle.reply_read.specs.declared.replies.ReplyFault.TheVariants as fault
use Rattle.reply_read.specs.Kinds.{is_object}
use Rattle.reply_read.specs.Errors.{error_texts}
use Rattle.reply_read.specs.Values.{data_of, values_of}
use Rattle.reply_read.specs.TagTexts.{reply_tags}
use Rattle.reply_read.specs.Replies.{GatheredPieces, is_some_list, with_values, with_data, with_errors, read_of, Gives}

-- THE ANSWER

pub gives_shape : (expected : Result GatheredPieces ReplyFault) (m : List ℕ) (f : ReplyFault) → expected ≡ Err (fault.Shape m) → (f ≡ fault.Shape m) ⊎ (f ≡ fault.Memory) → Gives expected (Err f)
gives_shape expected m f is (inl same) = subst (λ (g : ReplyFault). Gives expected (Err g)) (sym same) is
gives_shape expected m f is (inr same) = subst (λ (g : ReplyFault). Gives expected (Err g)) (sym same) tt

gives_any : (expected : Result GatheredPieces ReplyFault) (f : ReplyFault) → expected ≡ Err f → Gives expected (Err f)
gives_any expected (fault.Status s) is = is
gives_any expected (fault.Json p) is = is
gives_any expected (fault.Shape m) is = is
gives_any expected (fault.Count a b) is = is
gives_any expected fault.Memory is = tt

same_err : (f g : ReplyFault) → ◌≡◌ {A = Result (List Json) ReplyFault} (Err f) (Err g) → f ≡ g
same_err f g h = cc h

pub gives_fault : (expected : Result GatheredPieces ReplyFault) (ts : List Tags) (es : List (List ℕ)) (x : Result (List Json) ReplyFault) (f : ReplyFault) → expected ≡ with_values ts es x → (◌≡◌ {A = Result (List Json) ReplyFault} (Err f) x) ⊎ (◌≡◌ {A = Result (List Json) ReplyFault} (Err f) (Err fault.Memory)) → Gives expected (Err f)
gives_fault expected ts es x f is (inl same) = gives_any expected f (is ∙ ap (with_values ts es) (sym same))
gives_fault expected ts es x f is (inr same) = subst (λ (g : ReplyFault). Gives expected (Err g)) (sym (same_err f fault.Memory same)) tt

pub gives_pieces : (expected : Result GatheredPieces ReplyFault) (ts : List Tags) (es : List (List ℕ)) (x : Result (List Json) ReplyFault) (items : List Json) → expected ≡ with_values ts es x → (◌≡◌ {A = Result (List Json) ReplyFault} (Ok items) x) ⊎ (◌≡◌ {A = Result (List Json) ReplyFault} (Ok items) (Err fault.Memory)) → expected ≡ Ok (record { values = items; tags = ts; errors = es })
gives_pieces expected ts es x items is (inl same) = is ∙ ap (with_values ts es) (sym same)
gives_pieces expected ts es x items is (inr same) = absurd (cc same)

-- WHAT IS EXPECTED

with_object : (v : Json) (s : Sent) → is_object v ≡ true → read_of v s ≡ with_errors v s (error_texts (member v (codes "errors")))
with_object v s is = ap (λ (b : Bool). if b then with_errors v s (error_texts (member v (codes "errors"))) else Err (fault.Shape [])) is

pub gives_there : (v : Json) (s : Sent) (ts : List Tags) (es : List (List ℕ)) (found : Option Json) (r : Result Pieces ReplyFault) → is_object v ≡ true → error_texts (member v (codes "errors")) ≡ Some es → ts ≡ reply_tags s (member v (codes "extensions"))
    → data_of (is_some_list es) (member v (codes "data")) ≡ Some found → Gives (with_values ts es (values_of s found)) r → Gives (read_of v s) r
gives_there v s ts es found r obj errs tagged there h =
    let same : ◌≡◌ {A = Result GatheredPieces ReplyFault} (read_of v s) (with_values ts es (values_of s found)) = with_object v s obj ∙ ap (with_errors v s) errs ∙ ap (with_data s (reply_tags s (member v (codes "extensions"))) es) there ∙ ap (λ (x : List Tags). with_values x es (values_of s found)) (sym tagged) in
    subst (λ (x : Result GatheredPieces ReplyFault). Gives x r) (sym same) h

test_other : (a b : ℕ) → a ≢ b → (a == b) ≡ false
test_other a b differ = grind (arith, nat_tests)

pub some_list : (es : List (List ℕ)) (n : ℕ) (b : Bool) → n ≡ length es → b ≡ (n == 0) → is_some_list es ≡ not b
some_list [] n b is e = let t : b ≡ true = e ∙ eq-eqb n 0 is in ap not (sym t)
some_list (x ∷ xs) n b is e = let t : b ≡ false = e ∙ test_other n 0 (λ z. absurd (omega (arith, is, z))) in ap not (sym t)
