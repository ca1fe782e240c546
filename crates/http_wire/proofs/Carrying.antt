-- What was found in the bytes so far stays when more bytes come.
use Rattle.std.proofs.Common.{◌≡◌, ◌⊎◌, inl, inr, ◌∙◌, sym, ap, ℕ, List, [], ◌++◌, Option, Some, None, length, append_assoc, append-nil, subst, ◌+◌, ◌-◌, ◌<◌, ◌≤◌, arith, false, refl}
use Rattle.std.specs.Prelude.{slice_index}
use Rattle.std.proofs.lemmas.List.{get_or_append_left, length-append}
use Rattle.std.proofs.lemmas.Bool.{cases_lt}
use Rattle.std.proofs.KnownBytes.{Consumes-trans}
use Rattle.http_wire.specs.EmptyLine.{ends_empty_line, NoEmptyLine}
use Rattle.http_wire.specs.Taking.{Uses, Fills}

same_byte : (xs ys : List ℕ) (at back : ℕ) → at < length xs → slice_index (xs ++ ys) (at - back) ≡ slice_index xs (at - back)
same_byte xs ys at back inside = get_or_append_left xs ys 0 (at - back) (omega arith)

pub same_end : (xs ys : List ℕ) (at : ℕ) → at < length xs → ends_empty_line (xs ++ ys) at ≡ ends_empty_line xs at
unfolding ends_empty_line
same_end xs ys at inside = rw (get_or_append_left xs ys 0 at inside, same_byte xs ys at 1 inside, same_byte xs ys at 2 inside) refl

pub still_none : (old now given : List ℕ) (to : ℕ) → now ≡ old ++ given → to ≤ length old → NoEmptyLine old 0 to → NoEmptyLine now 0 to
still_none old now given to whole le none at low high =
    ap (λ bytes. ends_empty_line bytes at) whole ∙ same_end old given at (omega arith) ∙ none at low high

pub used_so_far : (kept old now : List ℕ) (left mid after : Option (List ℕ)) (n : ℕ) → Uses kept old left mid [] → Fills old now mid after n → Uses kept now left after []
used_so_far kept old now left mid after n first more = record {
  given = first.given ++ more.given;
  consumed = Consumes-trans left mid after first.given more.given first.consumed more.consumed;
  whole = sym (append_assoc kept first.given more.given) ∙ ap (λ bytes. bytes ++ more.given) first.whole ∙ sym more.whole;
}

pub more_kept : (kept old now : List ℕ) (left mid after : Option (List ℕ)) (n : ℕ) → Fills old now mid after n → length old ≤ length now
more_kept kept old now left mid after n more = subst (λ (bytes : List ℕ). length old ≤ length bytes) (sym more.whole) (subst (λ (k : ℕ). length old ≤ k) (sym (length-append old more.given)) (omega arith))

pub none_joined : (bytes : List ℕ) (mid to : ℕ) → NoEmptyLine bytes 0 mid → NoEmptyLine bytes mid to → NoEmptyLine bytes 0 to
none_joined bytes mid to first then at low high = by_side (cases_lt at mid)
  where
    by_side : (at < mid) ⊎ (mid ≤ at) → ends_empty_line bytes at ≡ false
    by_side (inl below) = first at low below
    by_side (inr above) = then at above high

pub kept_count : (old now : List ℕ) (mid after : Option (List ℕ)) (n : ℕ) → Fills old now mid after n → length now ≡ length old + n
kept_count old now mid after n more = ap length more.whole ∙ length-append old more.given ∙ ap (λ k. length old + k) more.counted

pub uses_none : (kept : List ℕ) (left : Option (List ℕ)) → Uses kept kept left left []
uses_none kept None = record { given = []; consumed = tt; whole = append-nil kept }
uses_none kept (Some bytes) = record { given = []; consumed = refl; whole = append-nil kept }
