-- Written by tools/numbers from Unicode CLDR 48. Do not edit.
-- The digits of numbering systems, from 0 to 9, as characters.
use Rattle.std.specs.Prelude.{ℕ, List, codes}

abbrev pub adlm : List ℕ
adlm = codes "\u{1e950}\u{1e951}\u{1e952}\u{1e953}\u{1e954}\u{1e955}\u{1e956}\u{1e957}\u{1e958}\u{1e959}"

abbrev pub arab : List ℕ
arab = codes "\u{660}\u{661}\u{662}\u{663}\u{664}\u{665}\u{666}\u{667}\u{668}\u{669}"

abbrev pub arabext : List ℕ
arabext = codes "۰۱۲۳۴۵۶۷۸۹"

abbrev pub beng : List ℕ
beng = codes "০১২৩৪৫৬৭৮৯"

abbrev pub cakm : List ℕ
cakm = codes "𑄶𑄷𑄸𑄹𑄺𑄻𑄼𑄽𑄾𑄿"

abbrev pub deva : List ℕ
deva = codes "०१२३४५६७८९"

abbrev pub latn : List ℕ
latn = codes "0123456789"

abbrev pub mymr : List ℕ
mymr = codes "၀၁၂၃၄၅၆၇၈၉"

abbrev pub nkoo : List ℕ
nkoo = codes "\u{7c0}\u{7c1}\u{7c2}\u{7c3}\u{7c4}\u{7c5}\u{7c6}\u{7c7}\u{7c8}\u{7c9}"

abbrev pub olck : List ℕ
olck = codes "᱐᱑᱒᱓᱔᱕᱖᱗᱘᱙"

abbrev pub tibt : List ℕ
tibt = codes "༠༡༢༣༤༥༦༧༨༩"
