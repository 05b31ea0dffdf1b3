-- Written by tools/numbers from Unicode CLDR 48. Do not edit.
-- The patterns.
use Rattle.std.specs.Prelude.{[], ◌∷◌}
use Rattle.fluent_numerals.specs.Forms.{Pattern, pattern_of}
use Rattle.fluent_numerals.specs.declared.pattern.Piece.TheVariants.{Nothing, Literal, Minus, PercentSign, Currency, CurrencyBeforeDigits, CurrencyAfterDigits}

-- #,##,##0%
abbrev pub indian_whole_percent : Pattern
indian_whole_percent =
    pattern_of (Nothing ∷ Nothing ∷ Nothing ∷ []) (PercentSign ∷ Nothing ∷ Nothing ∷ []) (Minus ∷ Nothing ∷ Nothing ∷ []) (PercentSign ∷ Nothing ∷ Nothing ∷ []) 3 2

-- #,##,##0.###
abbrev pub indian_number : Pattern
indian_number =
    pattern_of (Nothing ∷ Nothing ∷ Nothing ∷ []) (Nothing ∷ Nothing ∷ Nothing ∷ []) (Minus ∷ Nothing ∷ Nothing ∷ []) (Nothing ∷ Nothing ∷ Nothing ∷ []) 3 2

-- #,##,##0.00¤
abbrev pub indian_amount_currency : Pattern
indian_amount_currency =
    pattern_of (Nothing ∷ Nothing ∷ Nothing ∷ []) (CurrencyAfterDigits ∷ Nothing ∷ Nothing ∷ []) (Minus ∷ Nothing ∷ Nothing ∷ []) (CurrencyAfterDigits ∷ Nothing ∷ Nothing ∷ []) 3 2

-- #,##,##0\u{a0}%
abbrev pub indian_whole_space_percent : Pattern
indian_whole_space_percent =
    pattern_of (Nothing ∷ Nothing ∷ Nothing ∷ []) (Literal 0xa0 ∷ PercentSign ∷ Nothing ∷ []) (Minus ∷ Nothing ∷ Nothing ∷ []) (Literal 0xa0 ∷ PercentSign ∷ Nothing ∷ []) 3 2

-- #,##0%
abbrev pub whole_percent : Pattern
whole_percent =
    pattern_of (Nothing ∷ Nothing ∷ Nothing ∷ []) (PercentSign ∷ Nothing ∷ Nothing ∷ []) (Minus ∷ Nothing ∷ Nothing ∷ []) (PercentSign ∷ Nothing ∷ Nothing ∷ []) 3 3

-- #,##0.###
abbrev pub number : Pattern
number =
    pattern_of (Nothing ∷ Nothing ∷ Nothing ∷ []) (Nothing ∷ Nothing ∷ Nothing ∷ []) (Minus ∷ Nothing ∷ Nothing ∷ []) (Nothing ∷ Nothing ∷ Nothing ∷ []) 3 3

-- #,##0.00\u{a0}¤
abbrev pub amount_space_currency : Pattern
amount_space_currency =
    pattern_of (Nothing ∷ Nothing ∷ Nothing ∷ []) (Literal 0xa0 ∷ Currency ∷ Nothing ∷ []) (Minus ∷ Nothing ∷ Nothing ∷ []) (Literal 0xa0 ∷ Currency ∷ Nothing ∷ []) 3 3

-- #,##0.00\u{a0}¤;-#,##0.00\u{a0}¤
abbrev pub amount_space_currency_or_minus_amount_space_currency : Pattern
amount_space_currency_or_minus_amount_space_currency =
    pattern_of (Nothing ∷ Nothing ∷ Nothing ∷ []) (Literal 0xa0 ∷ Currency ∷ Nothing ∷ []) (Minus ∷ Nothing ∷ Nothing ∷ []) (Literal 0xa0 ∷ Currency ∷ Nothing ∷ []) 3 3

-- #,##0.00¤
abbrev pub amount_currency : Pattern
amount_currency =
    pattern_of (Nothing ∷ Nothing ∷ Nothing ∷ []) (CurrencyAfterDigits ∷ Nothing ∷ Nothing ∷ []) (Minus ∷ Nothing ∷ Nothing ∷ []) (CurrencyAfterDigits ∷ Nothing ∷ Nothing ∷ []) 3 3

-- #,##0.00\u{202f}¤
abbrev pub amount_thin_currency : Pattern
amount_thin_currency =
    pattern_of (Nothing ∷ Nothing ∷ Nothing ∷ []) (Literal 0x202f ∷ Currency ∷ Nothing ∷ []) (Minus ∷ Nothing ∷ Nothing ∷ []) (Literal 0x202f ∷ Currency ∷ Nothing ∷ []) 3 3

-- #,##0\u{a0}%
abbrev pub whole_space_percent : Pattern
whole_space_percent =
    pattern_of (Nothing ∷ Nothing ∷ Nothing ∷ []) (Literal 0xa0 ∷ PercentSign ∷ Nothing ∷ []) (Minus ∷ Nothing ∷ Nothing ∷ []) (Literal 0xa0 ∷ PercentSign ∷ Nothing ∷ []) 3 3

-- #,##0\u{202f}%
abbrev pub whole_thin_percent : Pattern
whole_thin_percent =
    pattern_of (Nothing ∷ Nothing ∷ Nothing ∷ []) (Literal 0x202f ∷ PercentSign ∷ Nothing ∷ []) (Minus ∷ Nothing ∷ Nothing ∷ []) (Literal 0x202f ∷ PercentSign ∷ Nothing ∷ []) 3 3

-- #,#0.###
abbrev pub paired_number : Pattern
paired_number =
    pattern_of (Nothing ∷ Nothing ∷ Nothing ∷ []) (Nothing ∷ Nothing ∷ Nothing ∷ []) (Minus ∷ Nothing ∷ Nothing ∷ []) (Nothing ∷ Nothing ∷ Nothing ∷ []) 2 2

-- %#,##0
abbrev pub percent_whole : Pattern
percent_whole =
    pattern_of (PercentSign ∷ Nothing ∷ Nothing ∷ []) (Nothing ∷ Nothing ∷ Nothing ∷ []) (Minus ∷ PercentSign ∷ Nothing ∷ []) (Nothing ∷ Nothing ∷ Nothing ∷ []) 3 3

-- %\u{a0}#,##0
abbrev pub percent_space_whole : Pattern
percent_space_whole =
    pattern_of (PercentSign ∷ Literal 0xa0 ∷ Nothing ∷ []) (Nothing ∷ Nothing ∷ Nothing ∷ []) (Minus ∷ PercentSign ∷ Literal 0xa0 ∷ []) (Nothing ∷ Nothing ∷ Nothing ∷ []) 3 3

-- %\u{a0}#,#0;%\u{a0}-#,#0
abbrev pub percent_space_paired_whole_or_percent_space_minus_paired_whole : Pattern
percent_space_paired_whole_or_percent_space_minus_paired_whole =
    pattern_of (PercentSign ∷ Literal 0xa0 ∷ Nothing ∷ []) (Nothing ∷ Nothing ∷ Nothing ∷ []) (PercentSign ∷ Literal 0xa0 ∷ Minus ∷ []) (Nothing ∷ Nothing ∷ Nothing ∷ []) 2 2

-- 0%
abbrev pub bare_whole_percent : Pattern
bare_whole_percent =
    pattern_of (Nothing ∷ Nothing ∷ Nothing ∷ []) (PercentSign ∷ Nothing ∷ Nothing ∷ []) (Minus ∷ Nothing ∷ Nothing ∷ []) (PercentSign ∷ Nothing ∷ Nothing ∷ []) 0 0

-- 0.######
abbrev pub bare_number : Pattern
bare_number =
    pattern_of (Nothing ∷ Nothing ∷ Nothing ∷ []) (Nothing ∷ Nothing ∷ Nothing ∷ []) (Minus ∷ Nothing ∷ Nothing ∷ []) (Nothing ∷ Nothing ∷ Nothing ∷ []) 0 0

-- ¤#,##,##0.00
abbrev pub currency_indian_amount : Pattern
currency_indian_amount =
    pattern_of (CurrencyBeforeDigits ∷ Nothing ∷ Nothing ∷ []) (Nothing ∷ Nothing ∷ Nothing ∷ []) (Minus ∷ CurrencyBeforeDigits ∷ Nothing ∷ []) (Nothing ∷ Nothing ∷ Nothing ∷ []) 3 2

-- ¤#,##0.00
abbrev pub currency_amount : Pattern
currency_amount =
    pattern_of (CurrencyBeforeDigits ∷ Nothing ∷ Nothing ∷ []) (Nothing ∷ Nothing ∷ Nothing ∷ []) (Minus ∷ CurrencyBeforeDigits ∷ Nothing ∷ []) (Nothing ∷ Nothing ∷ Nothing ∷ []) 3 3

-- ¤#,##0.00;¤-#,##0.00
abbrev pub currency_amount_or_currency_minus_amount : Pattern
currency_amount_or_currency_minus_amount =
    pattern_of (CurrencyBeforeDigits ∷ Nothing ∷ Nothing ∷ []) (Nothing ∷ Nothing ∷ Nothing ∷ []) (Currency ∷ Minus ∷ Nothing ∷ []) (Nothing ∷ Nothing ∷ Nothing ∷ []) 3 3

-- ¤#,##0.00;¤-\u{a0}#,##0.00
abbrev pub currency_amount_or_currency_minus_space_amount : Pattern
currency_amount_or_currency_minus_space_amount =
    pattern_of (CurrencyBeforeDigits ∷ Nothing ∷ Nothing ∷ []) (Nothing ∷ Nothing ∷ Nothing ∷ []) (Currency ∷ Minus ∷ Literal 0xa0 ∷ []) (Nothing ∷ Nothing ∷ Nothing ∷ []) 3 3

-- ¤#,#0.00
abbrev pub currency_paired_amount : Pattern
currency_paired_amount =
    pattern_of (CurrencyBeforeDigits ∷ Nothing ∷ Nothing ∷ []) (Nothing ∷ Nothing ∷ Nothing ∷ []) (Minus ∷ CurrencyBeforeDigits ∷ Nothing ∷ []) (Nothing ∷ Nothing ∷ Nothing ∷ []) 2 2

-- ¤\u{a0}#,##,##0.00
abbrev pub currency_space_indian_amount : Pattern
currency_space_indian_amount =
    pattern_of (Currency ∷ Literal 0xa0 ∷ Nothing ∷ []) (Nothing ∷ Nothing ∷ Nothing ∷ []) (Minus ∷ Currency ∷ Literal 0xa0 ∷ []) (Nothing ∷ Nothing ∷ Nothing ∷ []) 3 2

-- ¤\u{a0}#,##0.00
abbrev pub currency_space_amount : Pattern
currency_space_amount =
    pattern_of (Currency ∷ Literal 0xa0 ∷ Nothing ∷ []) (Nothing ∷ Nothing ∷ Nothing ∷ []) (Minus ∷ Currency ∷ Literal 0xa0 ∷ []) (Nothing ∷ Nothing ∷ Nothing ∷ []) 3 3

-- ¤\u{a0}#,##0.00;¤-#,##0.00
abbrev pub currency_space_amount_or_currency_minus_amount : Pattern
currency_space_amount_or_currency_minus_amount =
    pattern_of (Currency ∷ Literal 0xa0 ∷ Nothing ∷ []) (Nothing ∷ Nothing ∷ Nothing ∷ []) (Currency ∷ Minus ∷ Nothing ∷ []) (Nothing ∷ Nothing ∷ Nothing ∷ []) 3 3

-- ¤\u{a0}#,##0.00;¤\u{a0}#,##0.00-
abbrev pub currency_space_amount_or_currency_space_amount_minus : Pattern
currency_space_amount_or_currency_space_amount_minus =
    pattern_of (Currency ∷ Literal 0xa0 ∷ Nothing ∷ []) (Nothing ∷ Nothing ∷ Nothing ∷ []) (Currency ∷ Literal 0xa0 ∷ Nothing ∷ []) (Minus ∷ Nothing ∷ Nothing ∷ []) 3 3

-- ¤\u{a0}#,##0.00;¤\u{a0}-#,##0.00
abbrev pub currency_space_amount_or_currency_space_minus_amount : Pattern
currency_space_amount_or_currency_space_minus_amount =
    pattern_of (Currency ∷ Literal 0xa0 ∷ Nothing ∷ []) (Nothing ∷ Nothing ∷ Nothing ∷ []) (Currency ∷ Literal 0xa0 ∷ Minus ∷ []) (Nothing ∷ Nothing ∷ Nothing ∷ []) 3 3

-- ¤\u{a0}0.00
abbrev pub currency_space_bare_amount : Pattern
currency_space_bare_amount =
    pattern_of (Currency ∷ Literal 0xa0 ∷ Nothing ∷ []) (Nothing ∷ Nothing ∷ Nothing ∷ []) (Minus ∷ Currency ∷ Literal 0xa0 ∷ []) (Nothing ∷ Nothing ∷ Nothing ∷ []) 0 0

-- \u{200e}¤#,##0.00
abbrev pub ltr_currency_amount : Pattern
ltr_currency_amount =
    pattern_of (Literal 0x200e ∷ CurrencyBeforeDigits ∷ Nothing ∷ []) (Nothing ∷ Nothing ∷ Nothing ∷ []) (Minus ∷ Literal 0x200e ∷ CurrencyBeforeDigits ∷ []) (Nothing ∷ Nothing ∷ Nothing ∷ []) 3 3

-- \u{200f}#,##0.00\u{a0}¤
abbrev pub rtl_amount_space_currency : Pattern
rtl_amount_space_currency =
    pattern_of (Literal 0x200f ∷ Nothing ∷ Nothing ∷ []) (Literal 0xa0 ∷ Currency ∷ Nothing ∷ []) (Minus ∷ Literal 0x200f ∷ Nothing ∷ []) (Literal 0xa0 ∷ Currency ∷ Nothing ∷ []) 3 3

-- \u{200f}#,##0.00\u{a0}¤;\u{200f}-#,##0.00\u{a0}¤
abbrev pub rtl_amount_space_currency_or_rtl_minus_amount_space_currency : Pattern
rtl_amount_space_currency_or_rtl_minus_amount_space_currency =
    pattern_of (Literal 0x200f ∷ Nothing ∷ Nothing ∷ []) (Literal 0xa0 ∷ Currency ∷ Nothing ∷ []) (Literal 0x200f ∷ Minus ∷ Nothing ∷ []) (Literal 0xa0 ∷ Currency ∷ Nothing ∷ []) 3 3

-- \u{200f}#,##0.00\u{a0}\u{200f}¤;\u{200f}-#,##0.00\u{a0}\u{200f}¤
abbrev pub rtl_amount_space_rtl_currency_or_rtl_minus_amount_space_rtl_currency : Pattern
rtl_amount_space_rtl_currency_or_rtl_minus_amount_space_rtl_currency =
    pattern_of (Literal 0x200f ∷ Nothing ∷ Nothing ∷ []) (Literal 0xa0 ∷ Literal 0x200f ∷ Currency ∷ []) (Literal 0x200f ∷ Minus ∷ Nothing ∷ []) (Literal 0xa0 ∷ Literal 0x200f ∷ Currency ∷ []) 3 3
