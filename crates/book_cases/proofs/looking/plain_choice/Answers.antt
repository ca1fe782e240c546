use Rattle.cache_model.proofs.Sound.{sound_of}
use Rattle.book_cases.proofs.looking.plain_choice.Goals as goal

pub chosen-requires : goal.chosen-requires
chosen-requires c =
    let s = c.args.book.now in
    rw (c.deref.ensures.value, c.journal.ensures.same) (sound_of s.limits s.journal c.journal.ensures.legal.each)
