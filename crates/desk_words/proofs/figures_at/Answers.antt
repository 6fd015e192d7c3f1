use Rattle.desk_words.proofs.figures_at.Goals as goal

pub returns : goal.returns
returns c =
    let the-word-at = c.word_at in
    let the-word-at2 = c.word_at-2 in
    let the-word-at3 = c.word_at-3 in
    let the-word-at4 = c.word_at-4 in
    let the-word-at5 = c.word_at-5 in
    let the-limit-at = c.limit_at in
    let the-word-at6 = c.word_at-6 in
    let the-word-at7 = c.word_at-7 in
    let the-limit-at2 = c.limit_at-2 in
    rw (
      the-limit-at2.ensures,
      the-word-at7.ensures,
      the-word-at6.ensures,
      the-limit-at.ensures,
      the-word-at5.ensures,
      the-word-at4.ensures,
      the-word-at3.ensures,
      the-word-at2.ensures,
      the-word-at.ensures,
    )
