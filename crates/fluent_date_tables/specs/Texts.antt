-- Written by tools/dates from Unicode CLDR 48. Do not edit.
-- The texts: patterns, and lists of names with `|` between them.
use Rattle.std.specs.Prelude.{ℕ, List, [], ◌∷◌, ◌/◌, ◌%◌, ◌==◌, if◌then◌else◌}
use Rattle.fluent_date_tables.specs.Tables.{Text, utf8, list_at}

unfoldable pub texts_1 : List Text
texts_1 =
    utf8 "" ∷ utf8 "h B" ∷ utf8 "h:mm B" ∷ utf8 "h:mm:ss B" ∷ utf8 "ccc" ∷ utf8 "E h B" ∷ utf8 "E h:mm B" ∷
    utf8 "E h:mm:ss B" ∷ utf8 "E HH:mm" ∷ utf8 "E HH:mm:ss" ∷ utf8 "d, E" ∷ utf8 "E h a" ∷ utf8 "E h:mm a" ∷
    utf8 "E h:mm:ss a" ∷ utf8 "G" ∷ utf8 "G y" ∷ utf8 "G y-MM" ∷ utf8 "G y-MM-dd, E" ∷ utf8 "G y MMM" ∷
    utf8 "G y MMM d, E" ∷ utf8 "G y MMM d" ∷ utf8 "G y-MM-dd" ∷ utf8 "HH" ∷ utf8 "HH:mm:ss zzzz" ∷
    utf8 "HH:mm:ss z" ∷ utf8 "HH:mm:ss" ∷ utf8 "HH:mm" ∷ utf8 "HH:mm:ss v" ∷ utf8 "HH:mm v" ∷ utf8 "HH'h' v" ∷
    utf8 "L" ∷ utf8 "MM-dd, E" ∷ utf8 "LLL" ∷ utf8 "MMM d, E" ∷ utf8 "MMMM d" ∷ utf8 "MMM d" ∷ utf8 "MM-dd" ∷
    utf8 "S" ∷ utf8 "a" ∷ utf8 "h a" ∷ utf8 "h:mm a" ∷ utf8 "h:mm:ss a" ∷ utf8 "h:mm:ss a v" ∷ utf8 "h:mm a v" ∷
    utf8 "h a v" ∷ utf8 "d" ∷ utf8 "m" ∷ utf8 "mm:ss" ∷ utf8 "s" ∷ utf8 "v" ∷ utf8 "y" ∷ utf8 "y MMMM d, EEEE" ∷
    utf8 "y MMMM d" ∷ utf8 "y MMM d" ∷ utf8 "y-MM-dd" ∷ utf8 "y-MM" ∷ utf8 "y-MM-dd, E" ∷ utf8 "y MMM" ∷
    utf8 "y MMM d, E" ∷ utf8 "y MMMM" ∷ utf8 "." ∷ utf8 "1 0" ∷ utf8 "0 (2: 1)" ∷ utf8 "0 1" ∷
    utf8 "Month|Day|Hour|Minute|Second|Dayperiod" ∷ utf8 "M01|M02|M03|M04|M05|M06|M07|M08|M09|M10|M11|M12" ∷
    utf8 "1|2|3|4|5|6|7|8|9|10|11|12" ∷ utf8 "Sun|Mon|Tue|Wed|Thu|Fri|Sat" ∷ utf8 "S|M|T|W|T|F|S" ∷ utf8 "BCE|CE" ∷
    utf8 "AM|PM" ∷ utf8 "GMT||+||-||:" ∷ utf8 "UTC|" ∷ utf8 "hh:mm B" ∷ utf8 "hh:mm:ss B" ∷ utf8 "E hh:mm B" ∷
    utf8 "E hh:mm:ss B" ∷ utf8 "E d" ∷ utf8 "E hh:mm a" ∷ utf8 "E hh:mm:ss a" ∷ utf8 "y G" ∷ utf8 "MMM y G" ∷
    utf8 "E dd MMM y G" ∷ utf8 "dd MMM y G" ∷ utf8 "E d/M" ∷ utf8 "E d MMM" ∷ utf8 "E d MMMM" ∷ utf8 "d MMMM" ∷
    utf8 "d MMM" ∷ utf8 "dd-MM" ∷ utf8 "EEEE dd MMMM y" ∷ utf8 "dd MMMM y" ∷ utf8 "dd MMM y" ∷ utf8 "MM-y" ∷
    utf8 "E y-MM-dd" ∷ utf8 "MMM y" ∷ utf8 "E d MMM y" ∷ utf8 "MMMM y" ∷ utf8 "d MMM y" ∷ utf8 "," ∷
    utf8 "1 'om' 0" ∷ utf8 "maand|dag|uur|minuut|sekonde|vm./nm." ∷
    utf8 "Jan.|Feb.|Mrt.|Apr.|Mei|Jun.|Jul.|Aug.|Sep.|Okt.|Nov.|Des." ∷
    utf8 "Januarie|Februarie|Maart|April|Mei|Junie|Julie|Augustus|September|Oktober|November|Desember" ∷
    utf8 "J|F|M|A|M|J|J|A|S|O|N|D" ∷ utf8 "So.|Ma.|Di.|Wo.|Do.|Vr.|Sa." ∷
    utf8 "Sondag|Maandag|Dinsdag|Woensdag|Donderdag|Vrydag|Saterdag" ∷ utf8 "S|M|D|W|D|V|S" ∷ utf8 "v.C.|n.C." ∷
    utf8 "voor Christus|ná Christus" ∷ utf8 "vm.|nm." ∷ utf8 "v|n" ∷ utf8 "555552222222333333444444" ∷
    utf8 "||die oggend|die middag|die aand|die nag||||" ∷
    utf8 "||die oggend|in die middag|in die aand|in die nag||||" ∷ utf8 "UTC|Gekoördineerde universele tyd" ∷
    utf8 "d E" ∷ utf8 "d/M" ∷ utf8 "m:ss" ∷ utf8 "EEEE d MMMM y" ∷
    []

unfoldable pub texts_2 : List Text
texts_2 =
    utf8 "d MMMM y" ∷ utf8 "d/M/y" ∷ utf8 "M/y" ∷ utf8 "E d/M/y" ∷ utf8 "d MMM, y" ∷
    utf8 "ndzɔŋ|utsuʔ|tàm|menè|sɛkɔ̀n|â tsɨ̀" ∷ utf8 "nùm|kɨz|tɨd|taa|see|nzu|dum|fɔe|dzu|lɔm|kaa|fwo" ∷
    utf8 "ndzɔ̀ŋɔ̀nùm|ndzɔ̀ŋɔ̀kƗ̀zùʔ|ndzɔ̀ŋɔ̀tƗ̀dʉ̀ghà|ndzɔ̀ŋɔ̀tǎafʉ̄ghā|ndzɔ̀ŋèsèe|ndzɔ̀ŋɔ̀nzùghò|ndzɔ̀ŋɔ̀dùmlo|ndzɔ̀ŋɔ̀kwîfɔ̀e|ndzɔ̀ŋɔ̀tƗ̀fʉ̀ghàdzughù|ndzɔ̀ŋɔ̀ghǔuwelɔ̀m|ndzɔ̀ŋɔ̀chwaʔàkaa wo|ndzɔ̀ŋèfwòo" ∷
    utf8 "n|k|t|t|s|z|k|f|d|l|c|f" ∷ utf8 "nts|kpa|ghɔ|tɔm|ume|ghɨ|dzk" ∷
    utf8 "tsuʔntsɨ|tsuʔukpà|tsuʔughɔe|tsuʔutɔ̀mlò|tsuʔumè|tsuʔughɨ̂m|tsuʔndzɨkɔʔɔ" ∷
    utf8 "n|k|g|t|u|g|d" ∷ utf8 "SK|BK" ∷ utf8 "Sěe Kɨ̀lesto|Bǎa Kɨ̀lesto" ∷ utf8 "a.g|a.k" ∷
    utf8 "E, M/d" ∷ utf8 "E, MMM d" ∷ utf8 "E, MMMM d" ∷ utf8 "M/d" ∷ utf8 "h:mm:ss a zzzz" ∷ utf8 "h:mm:ss a z" ∷
    utf8 "EEE, d, MMMM, y" ∷ utf8 "d, MMMM, y" ∷ utf8 "MMM d, y" ∷ utf8 "d/M/yy" ∷ utf8 "E, M/d/y" ∷
    utf8 "E, MMM d, y" ∷ utf8 "y/M/d" ∷ utf8 "d, MMM, y" ∷ utf8 "1 'wɔ' 0" ∷ utf8 "1, 0" ∷
    utf8 "Bosome|Da|dɔnhwere|sima|Simasin|anɔpa/anwummerɛ" ∷
    utf8 "Ɔpɛpɔn|Ɔgyefoɔ|Ɔbɛnem|Oforisuo|Kɔtɔnimma|Ayɛwohomumu|Kutawonsa|Ɔsanaa|Ɛbɔ|Ahinime|Obubuo|Ɔpɛnimma" ∷
    utf8 "Ɔp|Ɔg|Ɔb|O|K|A|Ku|A|S|O|N|D" ∷ utf8 "Ɔ|Ɔ|Ɔ|O|K|A|K|Ɔ|Ɛ|A|O|Ɔ" ∷ utf8 "Kwa|Dwo|Ben|Wuk|Yaw|Fia|Mem" ∷
    utf8 "Sun|Dwoada|Benada|Wukuada|Yawoada|Fiada|Memeneda" ∷ utf8 "K|D|B|W|Y|F|M" ∷ utf8 "AK|KE" ∷
    utf8 "Ansa Kristo|Kristo Akyi" ∷ utf8 "AN|ANW" ∷ utf8 "an|anw" ∷ utf8 "UTC|Amansan Kɔdinatɛde Berɛ" ∷
    utf8 "B h" ∷ utf8 "B h:mm" ∷ utf8 "B h:mm:ss" ∷ utf8 "E B h" ∷ utf8 "E B h:mm" ∷ utf8 "E B h:mm:ss" ∷
    utf8 "E a h" ∷ utf8 "E a h:mm" ∷ utf8 "E a h:mm:ss" ∷ utf8 "M/y G" ∷ utf8 "E d/M/y G" ∷ utf8 "E MMM d y G" ∷
    utf8 "MMM d y G" ∷ utf8 "d/M/y GGGGG" ∷ utf8 "H" ∷ utf8 "E፣ d/M" ∷ utf8 "E፣ MMM d" ∷ utf8 "E፣ MMMM d" ∷
    utf8 "a h" ∷ utf8 "a h:mm" ∷ utf8 "a h:mm:ss" ∷ utf8 "a h v" ∷ utf8 "MMM d y" ∷ utf8 "dd/MM/y" ∷
    utf8 "E፣ d/M/y" ∷ utf8 "E፣ MMM d y" ∷ utf8 "ወር|ቀን|ሰዓት|ደቂቃ|ሰከንድ|ጥዋት/ከሰዓት" ∷
    utf8 "ጃን|ፌብ|ማርች|ኤፕሪ|ሜይ|ጁን|ጁላይ|ኦገስ|ሴፕቴ|ኦክቶ|ኖቬም|ዲሴም" ∷
    utf8 "ጃንዋሪ|ፌብሩዋሪ|ማርች|ኤፕሪል|ሜይ|ጁን|ጁላይ|ኦገስት|ሴፕቴምበር|ኦክቶበር|ኖቬምበር|ዲሴምበር" ∷ utf8 "ጃ|ፌ|ማ|ኤ|ሜ|ጁ|ጁ|ኦ|ሴ|ኦ|ኖ|ዲ" ∷
    utf8 "እሑድ|ሰኞ|ማክሰ|ረቡዕ|ሐሙስ|ዓርብ|ቅዳሜ" ∷ utf8 "እሑድ|ሰኞ|ማክሰኞ|ረቡዕ|ሐሙስ|ዓርብ|ቅዳሜ" ∷ utf8 "እ|ሰ|ማ|ረ|ሐ|ዓ|ቅ" ∷ utf8 "ዓ/ዓ|ዓ/ም" ∷
    utf8 "ዓመተ ዓለም|ዓመተ ምሕረት" ∷ utf8 "ጥዋት|ከሰዓት" ∷ utf8 "ጠ|ከ" ∷ utf8 "5555552222223333334444441" ∷
    utf8 "|ቀትር|ጥዋት|ከሰዓት|በምሽት|በሌሊት||||" ∷ utf8 "|ቀ|ጥዋት|ከሰዓት|በምሽት|በሌሊት||||" ∷ utf8 "ጂ ኤም ቲ||+||-||" ∷
    utf8 "UTC|የተቀነባበረ ሁለገብ ሰዓት" ∷ utf8 "E، d" ∷ utf8 "MM، y G" ∷ utf8 "E، d MMM y G" ∷ utf8 "d MMM y G" ∷
    utf8 "dd-MM-y GGGGG" ∷ utf8 "E، d\u{200f}/M" ∷ utf8 "E، d MMM" ∷ utf8 "E، d MMMM" ∷ utf8 "dd\u{200f}/MM" ∷
    utf8 "d\u{200f}/M" ∷ utf8 "EEEE، d MMMM y" ∷ utf8 "dd\u{200f}/MM\u{200f}/y" ∷ utf8 "M\u{200f}/y" ∷
    utf8 "E، d\u{200f}/M\u{200f}/y" ∷ utf8 "MM\u{200f}/y" ∷ utf8 "E، d MMM y" ∷ utf8 "d\u{200f}/M\u{200f}/y" ∷
    utf8 "1 \u{641}\u{64a} 0" ∷ utf8 "1، 0" ∷
    utf8 "\u{627}\u{644}\u{634}\u{647}\u{631}|\u{64a}\u{648}\u{645}|\u{627}\u{644}\u{633}\u{627}\u{639}\u{627}\u{62a}|\u{627}\u{644}\u{62f}\u{642}\u{627}\u{626}\u{642}|\u{627}\u{644}\u{62b}\u{648}\u{627}\u{646}\u{64a}|\u{635}/\u{645}" ∷
    utf8 "\u{64a}\u{646}\u{627}\u{64a}\u{631}|\u{641}\u{628}\u{631}\u{627}\u{64a}\u{631}|\u{645}\u{627}\u{631}\u{633}|\u{623}\u{628}\u{631}\u{64a}\u{644}|\u{645}\u{627}\u{64a}\u{648}|\u{64a}\u{648}\u{646}\u{64a}\u{648}|\u{64a}\u{648}\u{644}\u{64a}\u{648}|\u{623}\u{63a}\u{633}\u{637}\u{633}|\u{633}\u{628}\u{62a}\u{645}\u{628}\u{631}|\u{623}\u{643}\u{62a}\u{648}\u{628}\u{631}|\u{646}\u{648}\u{641}\u{645}\u{628}\u{631}|\u{62f}\u{64a}\u{633}\u{645}\u{628}\u{631}" ∷
    utf8 "\u{64a}|\u{641}|\u{645}|\u{623}|\u{648}|\u{646}|\u{644}|\u{63a}|\u{633}|\u{643}|\u{628}|\u{62f}" ∷
    utf8 "\u{627}\u{644}\u{623}\u{62d}\u{62f}|\u{627}\u{644}\u{627}\u{62b}\u{646}\u{64a}\u{646}|\u{627}\u{644}\u{62b}\u{644}\u{627}\u{62b}\u{627}\u{621}|\u{627}\u{644}\u{623}\u{631}\u{628}\u{639}\u{627}\u{621}|\u{627}\u{644}\u{62e}\u{645}\u{64a}\u{633}|\u{627}\u{644}\u{62c}\u{645}\u{639}\u{629}|\u{627}\u{644}\u{633}\u{628}\u{62a}" ∷
    utf8 "\u{62d}|\u{646}|\u{62b}|\u{631}|\u{62e}|\u{62c}|\u{633}" ∷ utf8 "\u{642}.\u{645}|\u{645}" ∷
    utf8 "\u{642}\u{628}\u{644} \u{627}\u{644}\u{645}\u{64a}\u{644}\u{627}\u{62f}|\u{645}\u{64a}\u{644}\u{627}\u{62f}\u{64a}" ∷
    utf8 "\u{635}|\u{645}" ∷ utf8 "599222666666377777444444" ∷
    utf8 "||\u{641}\u{62c}\u{631}ً\u{627}|\u{638}\u{647}\u{631}ً\u{627}|\u{645}\u{633}\u{627}\u{621}ً|\u{641}\u{64a} \u{627}\u{644}\u{645}\u{633}\u{627}\u{621}|\u{635}|\u{628}\u{639}\u{62f} \u{627}\u{644}\u{638}\u{647}\u{631}||\u{644}\u{64a}\u{644}\u{627}ً" ∷
    utf8 "||\u{641}\u{64a} \u{627}\u{644}\u{635}\u{628}\u{627}\u{62d}|\u{638}\u{647}\u{631}ً\u{627}|\u{645}\u{633}\u{627}\u{621}ً|\u{641}\u{64a} \u{627}\u{644}\u{645}\u{633}\u{627}\u{621}|\u{635}\u{628}\u{627}\u{62d}ً\u{627}|\u{628}\u{639}\u{62f} \u{627}\u{644}\u{638}\u{647}\u{631}||\u{644}\u{64a}\u{644}\u{627}ً" ∷
    utf8 "||\u{641}\u{62c}\u{631}ً\u{627}|\u{638}\u{647}\u{631}ً\u{627}|\u{645}\u{633}\u{627}\u{621}ً|\u{645}\u{646}\u{62a}\u{635}\u{641} \u{627}\u{644}\u{644}\u{64a}\u{644}|\u{635}\u{628}\u{627}\u{62d}ً\u{627}|\u{628}\u{639}\u{62f} \u{627}\u{644}\u{638}\u{647}\u{631}||\u{644}\u{64a}\u{644}\u{627}ً" ∷
    utf8 "\u{63a}\u{631}\u{64a}\u{646}\u{62a}\u{634}||+||-||:" ∷
    utf8 "UTC|\u{627}\u{644}\u{62a}\u{648}\u{642}\u{64a}\u{62a} \u{627}\u{644}\u{639}\u{627}\u{644}\u{645}\u{64a} \u{627}\u{644}\u{645}\u{646}\u{633}\u{642}" ∷
    utf8 "\u{66b}" ∷ utf8 "E, dd-MM" ∷
    []

unfoldable pub texts_3 : List Text
texts_3 =
    utf8 "E, d MMM" ∷ utf8 "a h.mm.ss zzzz" ∷ utf8 "a h.mm.ss z" ∷ utf8 "a h.mm.ss" ∷ utf8 "a h.mm" ∷
    utf8 "a h:mm:ss v" ∷ utf8 "a h:mm v" ∷ utf8 "EEEE, d MMMM, y" ∷ utf8 "d MMMM, y" ∷ utf8 "dd-MM-y" ∷
    utf8 "E, dd-MM-y" ∷ utf8 "E, d MMM y" ∷ utf8 "d-M-y" ∷ utf8 "1 'at' 0" ∷
    utf8 "মাহ|দিন|ঘণ্টা|মিনিট|ছেকেণ্ড|পূৰ্বাহ্ন/অপৰাহ্ন" ∷
    utf8 "জানু|ফেব্ৰু|মাৰ্চ|এপ্ৰিল|মে’|জুন|জুলাই|আগ|ছেপ্তে|অক্টো|নৱে|ডিচে" ∷
    utf8 "জানুৱাৰী|ফেব্ৰুৱাৰী|মাৰ্চ|এপ্ৰিল|মে’|জুন|জুলাই|আগষ্ট|ছেপ্তেম্বৰ|অক্টোবৰ|নৱেম্বৰ|ডিচেম্বৰ" ∷
    utf8 "জ|ফ|ম|এ|ম|জ|জ|আ|ছ|অ|ন|ড" ∷
    utf8 "দেও|সোম|মঙ্গল|বুধ|বৃহ|শুক্ৰ|শনি" ∷
    utf8 "দেওবাৰ|সোমবাৰ|মঙ্গলবাৰ|বুধবাৰ|বৃহস্পতিবাৰ|শুক্ৰবাৰ|শনিবাৰ" ∷
    utf8 "দ|স|ম|ব|ব|শ|শ" ∷ utf8 "খ্ৰীঃ পূঃ|খ্ৰীঃ" ∷
    utf8 "খ্ৰীষ্টপূৰ্ব|খ্ৰীষ্টাব্দ" ∷
    utf8 "পূৰ্বাহ্ন|অপৰাহ্ন" ∷
    utf8 "UTC|সমন্বিত সাৰ্বজনীন সময়" ∷ utf8 "EEEE, d MMMM y" ∷
    utf8 "Mweji|Thiku|Thaa|Dakika|Thekunde|Marango athiku" ∷ utf8 "Jan|Feb|Mac|Apr|Mei|Jun|Jul|Ago|Sep|Okt|Nov|Dec" ∷
    utf8 "Januari|Februari|Machi|Aprili|Mei|Juni|Julai|Agosti|Septemba|Oktoba|Novemba|Desemba" ∷
    utf8 "Jpi|Jtt|Jnn|Jtn|Alh|Ijm|Jmo" ∷ utf8 "Jumapili|Jumatatu|Jumanne|Jumatano|Alhamisi|Ijumaa|Jumamosi" ∷
    utf8 "J|J|J|J|A|I|J" ∷ utf8 "KM|BM" ∷ utf8 "Kabla yakwe Yethu|Baada yakwe Yethu" ∷ utf8 "icheheavo|ichamthi" ∷
    utf8 "E, d MMM y G" ∷ utf8 "E, d/M" ∷ utf8 "EEEE, d MMMM 'de' y" ∷ utf8 "d MMMM 'de' y" ∷ utf8 "E, d/M/y" ∷
    utf8 "LLLL 'de' y" ∷ utf8 "1 'a' 'les' 0" ∷ utf8 "mes|día|hora|minutu|segundu|periodu del día" ∷
    utf8 "xin|feb|mar|abr|may|xun|xnt|ago|set|och|pay|avi" ∷
    utf8 "de xineru|de febreru|de marzu|d’abril|de mayu|de xunu|de xunetu|d’agostu|de setiembre|d’ochobre|de payares|d’avientu" ∷
    utf8 "X|F|M|A|M|X|X|A|S|O|P|A" ∷ utf8 "Xin|Feb|Mar|Abr|May|Xun|Xnt|Ago|Set|Och|Pay|Avi" ∷
    utf8 "xineru|febreru|marzu|abril|mayu|xunu|xunetu|agostu|setiembre|ochobre|payares|avientu" ∷
    utf8 "dom|llu|mar|mié|xue|vie|sáb" ∷ utf8 "domingu|llunes|martes|miércoles|xueves|vienres|sábadu" ∷
    utf8 "D|L|M|M|X|V|S" ∷ utf8 "e.C.|d.C." ∷ utf8 "enantes de Cristu|después de Cristu" ∷
    utf8 "de la mañana|de la tarde" ∷ utf8 "a|p" ∷ utf8 "UTC|Hora coordinada universal" ∷ utf8 "G M y" ∷
    utf8 "G d M y, E" ∷ utf8 "G MMM y" ∷ utf8 "G d MMM y, E" ∷ utf8 "G d MMM y" ∷ utf8 "G d M y" ∷ utf8 "dd.MM, E" ∷
    utf8 "d MMM, E" ∷ utf8 "dd.MM" ∷ utf8 "d MMMM y, EEEE" ∷ utf8 "dd.MM.yy" ∷ utf8 "MM.y" ∷ utf8 "dd.MM.y, E" ∷
    utf8 "d MMM y, E" ∷ utf8 "dd.MM.y" ∷ utf8 "1/0" ∷ utf8 "Ay|Gün|Saat|Dəqiqə|Saniyə|AM/PM" ∷
    utf8 "yan|fev|mar|apr|may|iyn|iyl|avq|sen|okt|noy|dek" ∷
    utf8 "yanvar|fevral|mart|aprel|may|iyun|iyul|avqust|sentyabr|oktyabr|noyabr|dekabr" ∷
    utf8 "B.|B.e.|Ç.a.|Ç.|C.a.|C.|Ş." ∷ utf8 "bazar|bazar ertəsi|çərşənbə axşamı|çərşənbə|cümə axşamı|cümə|şənbə" ∷
    utf8 "7|1|2|3|4|5|6" ∷ utf8 "B.|B.E.|Ç.A.|Ç.|C.A.|C.|Ş." ∷ utf8 "e.ə.|y.e." ∷ utf8 "eramızdan əvvəl|yeni era" ∷
    utf8 "9999226666663333344555551" ∷ utf8 "|günorta|sübh|gündüz|axşamüstü|axşam|səhər|||gecə" ∷
    utf8 "|g|sübh|gündüz|axşamüstü|axşam|səhər|||gecə" ∷ utf8 "UTC|Koordinasiya edilmiş ümumdünya vaxtı" ∷
    utf8 "E, h B" ∷ utf8 "E, HH:mm" ∷ utf8 "E, HH:mm:ss" ∷ utf8 "E, h a" ∷ utf8 "G y 'й'." ∷ utf8 "G MM.y" ∷
    utf8 "MMM, G y 'й'." ∷ utf8 "d MMM, E, G y 'й'." ∷ utf8 "d MMM, G y 'й'." ∷ utf8 "G dd.MM.y" ∷ utf8 "HH 'сәғ'." ∷
    utf8 "HH 'сәғ'. v" ∷ utf8 "d MMMM, EEEE, y 'й'." ∷ utf8 "d MMMM, y 'й'." ∷ utf8 "d MMM, y 'й'." ∷
    utf8 "MMM, y 'й'." ∷ utf8 "d MMM, E, y 'й'." ∷ utf8 "MMMM, y 'й'." ∷ utf8 "ай|көн|сәғәт|минут|секунд|AM/PM" ∷
    utf8 "ғин.|фев.|мар.|апр.|май|июн.|июл.|авг.|сент.|окт.|нояб.|дек." ∷
    utf8 "ғинуар|февраль|март|апрель|май|июнь|июль|август|сентябрь|октябрь|ноябрь|декабрь" ∷
    utf8 "Ғ|Ф|М|А|М|И|И|А|С|О|Н|Д" ∷ utf8 "йәк.|дүш.|шиш.|шар.|кес.|йом.|шәм." ∷
    utf8 "йәкшәмбе|дүшәмбе|шишәмбе|шаршамбы|кесаҙна|йома|шәмбе" ∷ utf8 "Й|Д|Ш|Ш|К|Й|Ш" ∷ utf8 "б.э.т.|б.э." ∷
    utf8 "беҙҙең эраға тиклем|беҙҙең эра" ∷ utf8 "UTC|Координацияланған универсаль ваҡыт" ∷
    utf8 "soŋ|kɛl|ŋgɛŋ|ŋget|hìŋgeŋget|njǎmùha" ∷ utf8 "kɔn|mac|mat|mto|mpu|hil|nje|hik|dip|bio|may|liɓ" ∷
    utf8 "Kɔndɔŋ|Màcɛ̂l|Màtùmb|Màtop|M̀puyɛ|Hìlòndɛ̀|Njèbà|Hìkaŋ|Dìpɔ̀s|Bìòôm|Màyɛsèp|Lìbuy li ńyèe" ∷
    utf8 "k|m|m|m|m|h|n|h|d|b|m|l" ∷ utf8 "nɔy|nja|uum|ŋge|mbɔ|kɔɔ|jon" ∷
    utf8 "ŋgwà nɔ̂y|ŋgwà njaŋgumba|ŋgwà ûm|ŋgwà ŋgê|ŋgwà mbɔk|ŋgwà kɔɔ|ŋgwà jôn" ∷ utf8 "n|n|u|ŋ|m|k|j" ∷
    []

unfoldable pub texts_4 : List Text
texts_4 =
    utf8 "b.Y.K|m.Y.K" ∷ utf8 "bisū bi Yesù Krǐstò|i mbūs Yesù Krǐstò" ∷ utf8 "I bikɛ̂glà|I ɓugajɔp" ∷
    utf8 "y 'г'. G" ∷ utf8 "LLL y 'г'. G" ∷ utf8 "E, d MMM y 'г'. G" ∷ utf8 "d MMM y 'г'. G" ∷ utf8 "dd.MM.y GGGGG" ∷
    utf8 "HH:mm:ss, zzzz" ∷ utf8 "HH 'г' v" ∷ utf8 "E, d.M" ∷ utf8 "E, d MMMM" ∷ utf8 "d.M" ∷ utf8 "hh a" ∷
    utf8 "mm.ss" ∷ utf8 "EEEE, d MMMM y 'г'." ∷ utf8 "d MMMM y 'г'." ∷ utf8 "d.MM.yy" ∷ utf8 "M.y" ∷
    utf8 "E, d.M.y" ∷ utf8 "LLL y" ∷ utf8 "LLLL y" ∷ utf8 "d.M.y" ∷ utf8 "d MMM y 'г'." ∷ utf8 "1 'у' 0" ∷
    utf8 "месяц|дзень|гадзіна|хвіліна|секунда|Dayperiod" ∷ utf8 "сту|лют|сак|кра|мая|чэр|ліп|жні|вер|кас|ліс|сне" ∷
    utf8 "студзеня|лютага|сакавіка|красавіка|мая|чэрвеня|ліпеня|жніўня|верасня|кастрычніка|лістапада|снежня" ∷
    utf8 "с|л|с|к|м|ч|л|ж|в|к|л|с" ∷ utf8 "сту|лют|сак|кра|май|чэр|ліп|жні|вер|кас|ліс|сне" ∷
    utf8 "студзень|люты|сакавік|красавік|май|чэрвень|ліпень|жнівень|верасень|кастрычнік|лістапад|снежань" ∷
    utf8 "нд|пн|аў|ср|чц|пт|сб" ∷ utf8 "нядзеля|панядзелак|аўторак|серада|чацвер|пятніца|субота" ∷
    utf8 "н|п|а|с|ч|п|с" ∷ utf8 "да н.э.|н.э." ∷ utf8 "да нараджэння Хрыстова|ад нараджэння Хрыстова" ∷
    utf8 "am|pm" ∷ utf8 "UTC|Універсальны каардынаваны час" ∷ utf8 "Umweshi|Ubushiku|Insa|Mineti|Sekondi|Akasuba" ∷
    utf8 "Jan|Feb|Mac|Epr|Mei|Jun|Jul|Oga|Sep|Okt|Nov|Dis" ∷
    utf8 "Januari|Februari|Machi|Epreo|Mei|Juni|Julai|Ogasti|Septemba|Oktoba|Novemba|Disemba" ∷
    utf8 "J|F|M|E|M|J|J|O|S|O|N|D" ∷
    utf8 "Pa Mulungu|Palichimo|Palichibuli|Palichitatu|Palichine|Palichisano|Pachibelushi" ∷ utf8 "BC|AD" ∷
    utf8 "Before Yesu|After Yesu" ∷ utf8 "uluchelo|akasuba" ∷ utf8 "Mwedzi|Sihu|Saa|Dakika|Sekunde|Lwamelau" ∷
    utf8 "Hut|Vil|Dat|Tai|Han|Sit|Sab|Nan|Tis|Kum|Kmj|Kmb" ∷
    utf8 "pa mwedzi gwa hutala|pa mwedzi gwa wuvili|pa mwedzi gwa wudatu|pa mwedzi gwa wutai|pa mwedzi gwa wuhanu|pa mwedzi gwa sita|pa mwedzi gwa saba|pa mwedzi gwa nane|pa mwedzi gwa tisa|pa mwedzi gwa kumi|pa mwedzi gwa kumi na moja|pa mwedzi gwa kumi na mbili" ∷
    utf8 "H|V|D|T|H|S|S|N|T|K|K|K" ∷ utf8 "Mul|Vil|Hiv|Hid|Hit|Hih|Lem" ∷
    utf8 "pa mulungu|pa shahuviluha|pa hivili|pa hidatu|pa hitayi|pa hihanu|pa shahulembela" ∷ utf8 "M|J|H|H|H|W|J" ∷
    utf8 "Kabla ya Mtwaa|Baada ya Mtwaa" ∷ utf8 "pamilau|pamunyi" ∷ utf8 "h 'ч'. B" ∷ utf8 "h:mm 'ч'. B" ∷
    utf8 "h:mm:ss 'ч'. B" ∷ utf8 "E, h:mm 'ч'. B" ∷ utf8 "E, h:mm:ss 'ч'. B" ∷ utf8 "E, HH:mm 'ч'." ∷
    utf8 "E, HH:mm:ss 'ч'." ∷ utf8 "E, d" ∷ utf8 "E, h:mm 'ч'. a" ∷ utf8 "E, h:mm:ss 'ч'. a" ∷ utf8 "M.y 'г'. G" ∷
    utf8 "E, d.M.y 'г'. G" ∷ utf8 "MM.y 'г'. G" ∷ utf8 "E, d.MM.y 'г'. G" ∷ utf8 "MMMM y 'г'. G" ∷
    utf8 "E, d MMMM y 'г'. G" ∷ utf8 "d MMMM y 'г'. G" ∷ utf8 "d.MM.y 'г'. G" ∷ utf8 "dd.MM.y 'г'. GGGGG" ∷
    utf8 "HH 'ч'." ∷ utf8 "H:mm:ss 'ч'. zzzz" ∷ utf8 "H:mm:ss 'ч'. z" ∷ utf8 "H:mm:ss" ∷ utf8 "H:mm" ∷
    utf8 "HH:mm 'ч'." ∷ utf8 "HH:mm:ss 'ч'." ∷ utf8 "HH:mm:ss 'ч'. v" ∷ utf8 "HH:mm 'ч'. v" ∷ utf8 "HH 'ч' v" ∷
    utf8 "E, d.MM" ∷ utf8 "MM" ∷ utf8 "LLLL" ∷ utf8 "d.MM" ∷ utf8 "h 'ч'. a" ∷ utf8 "h:mm 'ч'. a" ∷
    utf8 "h:mm:ss 'ч'. a" ∷ utf8 "h:mm:ss 'ч'. a v" ∷ utf8 "h:mm 'ч'. a v" ∷ utf8 "h 'ч'. a v" ∷ utf8 "y 'г'." ∷
    utf8 "d.MM.y 'г'." ∷ utf8 "MM.y 'г'." ∷ utf8 "E, d.MM.y 'г'." ∷ utf8 "MMMM y 'г'." ∷ utf8 "E, d MMMM y 'г'." ∷
    utf8 "d.MM.yy 'г'." ∷ utf8 "1 'в' 0" ∷ utf8 "месец|ден|час|минута|секунда|пр.об./сл.об." ∷
    utf8 "яну|фев|март|апр|май|юни|юли|авг|сеп|окт|ное|дек" ∷
    utf8 "януари|февруари|март|април|май|юни|юли|август|септември|октомври|ноември|декември" ∷
    utf8 "я|ф|м|а|м|ю|ю|а|с|о|н|д" ∷ utf8 "нд|пн|вт|ср|чт|пт|сб" ∷
    utf8 "неделя|понеделник|вторник|сряда|четвъртък|петък|събота" ∷ utf8 "н|п|в|с|ч|п|с" ∷ utf8 "пр.Хр.|сл.Хр." ∷
    utf8 "преди Христа|след Христа" ∷ utf8 "пр.об.|сл.об." ∷ utf8 "555522222226663333444455" ∷
    utf8 "||сутринта|следобед|вечерта|през нощта|на обяд|||" ∷ utf8 "Гринуич||+||-||:" ∷
    utf8 "UTC|Координирано универсално време" ∷
    utf8 "जनवरी|फरवरी|मार्च|अप्रैल|मई|जून|जुलाई|अगस्त|सितम्बर|अक्टूबर|नवम्बर|दिसंबर" ∷
    utf8 "ऐतवार|सोमवार|मंगलवार|बुधवार|बृहस्पतवार|शुक्रवार|शनिवार" ∷
    utf8 "तडके|सांझ" ∷
    utf8 "जनवरी|फरवरी|मार्च|अप्रैल|मई|जून|जुलाई|अगस्त|सितम्बर|अक्टूबर|नवंबर|दिसंबर" ∷
    []

unfoldable pub texts_5 : List Text
texts_5 =
    utf8 "रबीबार|सोमबार|मंगलबार|बुधबार|बृहस्पतिबार|शुक्रबार|सनीचर" ∷
    utf8 "भोर|सांझ" ∷ utf8 "E, M/d/y G" ∷ utf8 "E, MMM d y G" ∷ utf8 "M/d/y G" ∷
    utf8 "EEEE, MMMM d/y" ∷ utf8 "MMM d/y" ∷ utf8 "M/d/y" ∷ utf8 "E, MMM d/y" ∷
    utf8 "aŋɔrɔ|ʊshilé|gakɔŋkɔŋɔ̀|gʊnaŋa|gɩpi|ʊshilé kaŋkǝlǝ́" ∷
    utf8 "kaw|kpa|ci|ɖʊ|ɖu5|ɖu6|la|kǝu|fʊm|cim|pom|bʊn" ∷
    utf8 "ɩjikawǝrka kaŋɔrɔ|ɩjikpaka kaŋɔrɔ|arɛ́cika kaŋɔrɔ|njɩbɔ nɖʊka kaŋɔrɔ|acafʊnɖuka kaŋɔrɔ|anɔɔɖuka kaŋɔrɔ|alàlaka kaŋɔrɔ|ɩjikǝuka kaŋɔrɔ|abofʊmka kaŋɔrɔ|ɩjicimka kaŋɔrɔ|acapomka kaŋɔrɔ|anɔɔbʊnka kaŋɔrɔ" ∷
    utf8 "alah|aɖɩt|atal|alar|alam|arɩs|asib" ∷ utf8 "alahaɖɩ|aɖɩtɛnɛɛ|atalaata|alaarba|alaamɩshɩ|arɩsǝma|asiibi" ∷
    utf8 "lh|ɖt|tl|lr|lm|rs|sb" ∷ utf8 "naaBYŊAƖ|AƖAK" ∷ utf8 "naa Ba Ye Ŋʊm Annabi Ɩsa|Annabi Ɩsa Abʊŋʊma Kaŋkǝm" ∷
    utf8 "1ka|2ja" ∷ utf8 "ʊshilè kʊboɖu|ʊshilè kʊsasʊ" ∷ utf8 "555522266666333377774444" ∷
    utf8 "||asʊbaa|gɩshilikɔnɔ|gɩjibɔŋɔ|gajanɩ|gajaka|gɩteŋshile||" ∷ utf8 "||asb|gshk|gjb|gjn|gjk|gtsh||" ∷
    utf8 "| Gk|+||-||:" ∷ utf8 "ƉAK|Ɖulinya aŋunii kaakɔŋkɔŋɔ̀" ∷ utf8 "M" ∷ utf8 "MMM" ∷ utf8 "d/MM" ∷
    utf8 "dd/MM" ∷ utf8 "MM/y" ∷ utf8 "kalo|don|lɛrɛ|miniti|sekondi|sɔgɔma/tile/wula/su" ∷
    utf8 "zan|feb|mar|awi|mɛ|zuw|zul|uti|sɛt|ɔku|now|des" ∷
    utf8 "zanwuye|feburuye|marisi|awirili|mɛ|zuwɛn|zuluye|uti|sɛtanburu|ɔkutɔburu|nowanburu|desanburu" ∷
    utf8 "Z|F|M|A|M|Z|Z|U|S|Ɔ|N|D" ∷ utf8 "kar|ntɛ|tar|ara|ala|jum|sib" ∷
    utf8 "kari|ntɛnɛ|tarata|araba|alamisa|juma|sibiri" ∷ utf8 "K|N|T|A|A|J|S" ∷ utf8 "J.-C. ɲɛ|ni J.-C." ∷
    utf8 "jezu krisiti ɲɛ|jezu krisiti minkɛ" ∷ utf8 "MM-y G" ∷ utf8 "E, dd-MM-y G" ∷ utf8 "E, d MMM, y G" ∷
    utf8 "d MMM, y G" ∷ utf8 "E, d-M" ∷ utf8 "E, d MMM, y" ∷ utf8 "1 এ 0" ∷
    utf8 "মাস|দিন|ঘণ্টা|মিনিট|সেকেন্ড|AM/PM" ∷
    utf8 "জানু|ফেব|মার্চ|এপ্রি|মে|জুন|জুল|আগ|সেপ|অক্টো|নভে|ডিসে" ∷
    utf8 "জানুয়ারি|ফেব্রুয়ারি|মার্চ|এপ্রিল|মে|জুন|জুলাই|আগস্ট|সেপ্টেম্বর|অক্টোবর|নভেম্বর|ডিসেম্বর" ∷
    utf8 "জা|ফে|মা|এ|মে|জুন|জু|আ|সে|অ|ন|ডি" ∷
    utf8 "জানু|ফেব|মার্চ|এপ্রিল|মে|জুন|জুলাই|আগস্ট|সেপ্ট|অক্টো|নভেম্বর|ডিসে" ∷
    utf8 "রবি|সোম|মঙ্গল|বুধ|বৃহস্পতি|শুক্র|শনি" ∷
    utf8 "রবিবার|সোমবার|মঙ্গলবার|বুধবার|বৃহস্পতিবার|শুক্রবার|শনিবার" ∷
    utf8 "র|সো|ম|বু|বৃ|শু|শ" ∷
    utf8 "খ্রিস্টপূর্ব|খৃষ্টাব্দ" ∷
    utf8 "খ্রিস্টপূর্ব|খ্রিস্টাব্দ" ∷
    utf8 "555522666666333377445555" ∷
    utf8 "||ভোর|দুপুর|সন্ধ্যা|রাত্রি|সকাল|বিকাল||" ∷
    utf8 "||ভোরবেলায়|দুপুরবেলায়|সন্ধ্যাবেলায়|রাত্রিবেলায়|সকালবেলায়|বিকাল||" ∷
    utf8 "GMT ||+||-||:" ∷
    utf8 "UTC|স্থানাংকিত আন্তর্জাতিক সময়" ∷
    utf8 "G y LLLL" ∷ utf8 "MMMཚེས་d, E" ∷ utf8 "MMMMའི་ཚེས་d" ∷ utf8 "MMMཚེས་d" ∷
    utf8 "y MMMMའི་ཚེས་d, EEEE" ∷ utf8 "སྤྱི་ལོ་y MMMMའི་ཚེས་d" ∷
    utf8 "y ལོའི་MMMཚེས་d" ∷ utf8 "y LLL" ∷
    utf8 "ཟླ་བ་|ཉིན།|ཆུ་ཚོད་|སྐར་མ།|སྐར་ཆ།|Dayperiod" ∷
    utf8 "ཟླ་༡|ཟླ་༢|ཟླ་༣|ཟླ་༤|ཟླ་༥|ཟླ་༦|ཟླ་༧|ཟླ་༨|ཟླ་༩|ཟླ་༡༠|ཟླ་༡༡|ཟླ་༡༢" ∷
    utf8 "ཟླ་བ་དང་པོ|ཟླ་བ་གཉིས་པ|ཟླ་བ་གསུམ་པ|ཟླ་བ་བཞི་པ|ཟླ་བ་ལྔ་པ|ཟླ་བ་དྲུག་པ|ཟླ་བ་བདུན་པ|ཟླ་བ་བརྒྱད་པ|ཟླ་བ་དགུ་པ|ཟླ་བ་བཅུ་པ|ཟླ་བ་བཅུ་གཅིག་པ|ཟླ་བ་བཅུ་གཉིས་པ" ∷
    utf8 "ཟླ་བ་དང་པོ་|ཟླ་བ་གཉིས་པ་|ཟླ་བ་གསུམ་པ་|ཟླ་བ་བཞི་པ་|ཟླ་བ་ལྔ་པ་|ཟླ་བ་དྲུག་པ་|ཟླ་བ་བདུན་པ་|ཟླ་བ་བརྒྱད་པ་|ཟླ་བ་དགུ་པ་|ཟླ་བ་བཅུ་པ་|ཟླ་བ་བཅུ་གཅིག་པ་|ཟླ་བ་བཅུ་གཉིས་པ་" ∷
    utf8 "ཉི་མ་|ཟླ་བ་|མིག་དམར་|ལྷག་པ་|ཕུར་བུ་|པ་སངས་|སྤེན་པ་" ∷
    utf8 "གཟའ་ཉི་མ་|གཟའ་ཟླ་བ་|གཟའ་མིག་དམར་|གཟའ་ལྷག་པ་|གཟའ་ཕུར་བུ་|གཟའ་པ་སངས་|གཟའ་སྤེན་པ་" ∷
    utf8 "ཉི|ཟླ|མིག|ལྷག|ཕུར|སངས|སྤེན" ∷
    utf8 "སྤྱི་ལོ་སྔོན་|སྤྱི་ལོ་" ∷
    utf8 "སྔ་དྲོ་|ཕྱི་དྲོ་" ∷ utf8 "MM/y G" ∷ utf8 "E, dd/MM/y G" ∷
    utf8 "E d MMM y G" ∷ utf8 "dd/MM/y G" ∷ utf8 "HH'e' v" ∷ utf8 "E dd/MM" ∷ utf8 "E dd/MM/y" ∷ utf8 "1 'da' 0" ∷
    utf8 "miz|deiz|eur|munut|eilenn|AM/GM" ∷ utf8 "Gen.|Cʼhwe.|Meur.|Ebr.|Mae|Mezh.|Goue.|Eost|Gwen.|Here|Du|Kzu." ∷
    utf8 "Genver|Cʼhwevrer|Meurzh|Ebrel|Mae|Mezheven|Gouere|Eost|Gwengolo|Here|Du|Kerzu" ∷
    utf8 "01|02|03|04|05|06|07|08|09|10|11|12" ∷ utf8 "Sul|Lun|Meu.|Mer.|Yaou|Gwe.|Sad." ∷
    utf8 "Sul|Lun|Meurzh|Mercʼher|Yaou|Gwener|Sadorn" ∷ utf8 "Su|L|Mz|Mc|Y|G|Sa" ∷ utf8 "a-raok J.K.|goude J.K." ∷
    utf8 "a-raok Jezuz-Krist|goude Jezuz-Krist" ∷ utf8 "A.M.|G.M." ∷ utf8 "am|gm" ∷ utf8 "UTC||+||-||:" ∷
    utf8 "UTC|amzer hollvedel kenurzhiet" ∷ utf8 "B नि h" ∷ utf8 "B नि h:mm" ∷
    utf8 "B नि h:mm:ss" ∷ utf8 "E B नि h:mm" ∷ utf8 "E B नि h:mm:ss" ∷ utf8 "a h:mm, E" ∷
    utf8 "a h:mm:ss, E" ∷ utf8 "Gy" ∷ utf8 "G y MMM E d" ∷ utf8 "GGGGG dd-MM-y" ∷ utf8 "d-MMM" ∷
    utf8 "a h:mm:ss zzzz" ∷ utf8 "a h:mm:ss z" ∷ utf8 "a नि h:mm" ∷ utf8 "a नि h" ∷
    utf8 "1 नि 0 याव" ∷
    utf8 "दान|सान|घन्टा|मिनित|सेकेण्ड|फुं/बेलासे" ∷
    utf8 "जान|फेब|मार्च|एप्रि|मे|जुन|जुल|आग|सेप|अक्ट’|नवे|डिसे" ∷
    utf8 "जानुवारी|फेब्रूवारी|मार्च|एप्रिल|मे|जुन|जुलाई|आगष्ट|सेप्थेम्बर|अक्ट’बर|नवेम्बर|डिसेम्बर" ∷
    utf8 "ज|फ|म|ए|म|ज|ज|आ|स|अ|न|ड" ∷
    utf8 "रबि|सम|मंगल|बुध|बिस्थि|सुखुर|सनि" ∷
    utf8 "रबिबार|समबार|मंगलबार|बुधबार|बिस्थिबार|सुखुरबार|सनिबार" ∷
    []

unfoldable pub texts_6 : List Text
texts_6 =
    utf8 "र|स|मं|बु|बि|सु|स" ∷
    utf8 "रबिबार|समबार|मंगलबार|बुधबार|बिस्थिबार|सुुखुरबार|सनिबार" ∷
    utf8 "बि.सि.|ए.दि" ∷
    utf8 "ख्राइष्तनि सिगां|आन्न’ दामिनि" ∷
    utf8 "फुं|बेलासे" ∷ utf8 "फुं|बे" ∷
    utf8 "जि.एम.ति ||+||-||:" ∷
    utf8 "UTC|गोरोबहोनाय मुलुगनां सम" ∷ utf8 "E, d." ∷ utf8 "y. G" ∷
    utf8 "MMM y. G" ∷ utf8 "E, d. MMM y. G" ∷ utf8 "d. MMM y. G" ∷ utf8 "d. M. y. G" ∷ utf8 "HH:mm:ss (v)" ∷
    utf8 "HH:mm (v)" ∷ utf8 "E, d. M." ∷ utf8 "E, d. MMM" ∷ utf8 "E, d. MMMM" ∷ utf8 "d. MMMM" ∷ utf8 "d. MMM" ∷
    utf8 "d. M." ∷ utf8 "hh:mm a" ∷ utf8 "hh:mm:ss a" ∷ utf8 "h:mm:ss a (v)" ∷ utf8 "h:mm a (v)" ∷ utf8 "d." ∷
    utf8 "y." ∷ utf8 "EEEE, d. MMMM y." ∷ utf8 "d. MMMM y." ∷ utf8 "d. MMM y." ∷ utf8 "d. M. y." ∷
    utf8 "E, d. M. y." ∷ utf8 "M. y." ∷ utf8 "MMM y." ∷ utf8 "E, d. MMM y." ∷ utf8 "LLLL y." ∷ utf8 "1 'u' 0" ∷
    utf8 "mjesec|dan|sat|minuta|sekunda|prijepodne/poslijepodne" ∷
    utf8 "jan|feb|mar|apr|maj|jun|jul|aug|sep|okt|nov|dec" ∷
    utf8 "januar|februar|mart|april|maj|juni|juli|august|septembar|oktobar|novembar|decembar" ∷
    utf8 "jan|feb|mar|apr|may|jun|jul|aug|sep|okt|nov|dec" ∷ utf8 "j|f|m|a|m|j|j|a|s|o|n|d" ∷
    utf8 "ned|pon|uto|sri|čet|pet|sub" ∷ utf8 "nedjelja|ponedjeljak|utorak|srijeda|četvrtak|petak|subota" ∷
    utf8 "N|P|U|S|Č|P|S" ∷ utf8 "n|p|u|s|č|p|s" ∷ utf8 "p. n. e.|n. e." ∷ utf8 "prije nove ere|nove ere" ∷
    utf8 "p.n.e.|n. e." ∷ utf8 "a. m.|p. m." ∷ utf8 "prijepodne|popodne" ∷ utf8 "5555222222223333334445551" ∷
    utf8 "|podne|ujutro|poslijepodne|navečer|po noći||||" ∷ utf8 "GMT ||+|| -||:" ∷
    utf8 "UTC|Koordinirano svjetsko vrijeme" ∷ utf8 "G y MM 'һарын' d, E" ∷ utf8 "G y MM 'һарын' d" ∷
    utf8 "E, MM 'һарын' d" ∷ utf8 "MM 'һарын' d" ∷ utf8 "y 'оной' MM 'һарын' d" ∷ utf8 "y 'оной' MM 'һарын' d, E" ∷
    utf8 "y 'оной' MMMM" ∷
    utf8 "нэгэдүгээр һара|хоёрдугаар һара|гурбадугаар һара|дүрбэдүгээр һара|табадугаар һара|зургадугаар һара|долодугаар һара|наймадугаар һара|юһэдүгээр һара|арбадугаар һара|арбан нэгэдүгээр һара|арбан хоёрдугаар һара" ∷
    utf8 "нима|дабаа|мигмар|һарба|пүрбэ|баасан|бимба" ∷ utf8 "Ни|Да|Ми|Һа|Пү|Ба|Би" ∷ utf8 "E H:mm" ∷
    utf8 "E H:mm:ss" ∷ utf8 "E, d/M/y G" ∷ utf8 "LLL y G" ∷ utf8 "E, d MMM 'del' y G" ∷ utf8 "LLLL 'del' y G" ∷
    utf8 "E, d MMMM 'del' y G" ∷ utf8 "d MMMM 'del' y G" ∷ utf8 "d MMM 'del' y G" ∷ utf8 "H:mm:ss (zzzz)" ∷
    utf8 "H:mm:ss z" ∷ utf8 "H:mm:ss v" ∷ utf8 "H:mm:ss (vvvv)" ∷ utf8 "H:mm v" ∷ utf8 "H:mm (vvvv)" ∷
    utf8 "H 'h' v" ∷ utf8 "h:mm:ss a (vvvv)" ∷ utf8 "h:mm a (vvvv)" ∷ utf8 "EEEE, d MMMM 'del' y" ∷
    utf8 "d MMMM 'del' y" ∷ utf8 "d MMM 'del' y" ∷ utf8 "LLL 'del' y" ∷ utf8 "LLLL 'del' y" ∷
    utf8 "E, d MMMM 'del' y" ∷ utf8 "1, 'a' 'les' 0" ∷ utf8 "mes|dia|hora|minut|segon|a.\u{a0}m./p.\u{a0}m." ∷
    utf8 "de gen.|de febr.|de març|d’abr.|de maig|de juny|de jul.|d’ag.|de set.|d’oct.|de nov.|de des." ∷
    utf8 "de gener|de febrer|de març|d’abril|de maig|de juny|de juliol|d’agost|de setembre|d’octubre|de novembre|de desembre" ∷
    utf8 "GN|FB|MÇ|AB|MG|JN|JL|AG|ST|OC|NV|DS" ∷ utf8 "gen.|febr.|març|abr.|maig|juny|jul.|ag.|set.|oct.|nov.|des." ∷
    utf8 "gener|febrer|març|abril|maig|juny|juliol|agost|setembre|octubre|novembre|desembre" ∷
    utf8 "dg.|dl.|dt.|dc.|dj.|dv.|ds." ∷ utf8 "diumenge|dilluns|dimarts|dimecres|dijous|divendres|dissabte" ∷
    utf8 "aC|dC" ∷ utf8 "abans de Crist|després de Crist" ∷ utf8 "a.\u{a0}m.|p.\u{a0}m." ∷
    utf8 "222222666666377777744555" ∷ utf8 "||matinada|migdia|vespre|nit|matí|tarda||" ∷
    utf8 "UTC|Temps universal coordinat" ∷
    utf8 "𑄟𑄏𑄴|𑄘𑄨𑄚𑄴|𑄊𑄮𑄚𑄴𑄓|𑄟𑄨𑄚𑄨𑄖𑄴|𑄥𑄬𑄉𑄬𑄚𑄴|AM/PM" ∷
    utf8 "𑄎𑄚𑄪|𑄜𑄬𑄛𑄴|𑄟𑄢𑄴𑄌𑄧|𑄃𑄬𑄛𑄳𑄢𑄨𑄣𑄴|𑄟𑄬|𑄎𑄪𑄚𑄴|𑄎𑄪𑄣𑄭|𑄃𑄉𑄧𑄌𑄴𑄑𑄴|𑄥𑄬𑄛𑄴𑄑𑄬𑄟𑄴𑄝𑄧𑄢𑄴|𑄃𑄧𑄇𑄴𑄑𑄮𑄝𑄧𑄢𑄴|𑄚𑄧𑄞𑄬𑄟𑄴𑄝𑄧𑄢𑄴|𑄓𑄨𑄥𑄬𑄟𑄴𑄝𑄢𑄴" ∷
    utf8 "𑄎𑄚𑄪𑄠𑄢𑄨|𑄜𑄬𑄛𑄴𑄝𑄳𑄢𑄪𑄠𑄢𑄨|𑄟𑄢𑄴𑄌𑄧|𑄃𑄬𑄛𑄳𑄢𑄨𑄣𑄴|𑄟𑄬|𑄎𑄪𑄚𑄴|𑄎𑄪𑄣𑄭|𑄃𑄉𑄧𑄌𑄴𑄑𑄴|𑄥𑄬𑄛𑄴𑄑𑄬𑄟𑄴𑄝𑄧𑄢𑄴|𑄃𑄧𑄇𑄴𑄑𑄬𑄝𑄧𑄢𑄴|𑄚𑄧𑄞𑄬𑄟𑄴𑄝𑄧𑄢𑄴|𑄓𑄨𑄥𑄬𑄟𑄴𑄝𑄧𑄢𑄴" ∷
    utf8 "𑄎|𑄜𑄬|𑄟|𑄃𑄬|𑄟𑄬|𑄎𑄪𑄚𑄴|𑄎𑄪|𑄃|𑄥𑄬|𑄃𑄧|𑄚𑄧|𑄓𑄨" ∷
    utf8 "𑄎𑄚𑄪𑄠𑄢𑄨|𑄜𑄬𑄛𑄴𑄝𑄳𑄢𑄪𑄠𑄢𑄨|𑄟𑄢𑄴𑄌𑄧|𑄃𑄬𑄛𑄳𑄢𑄨𑄣𑄴|𑄟𑄬|𑄎𑄪𑄚𑄴|𑄎𑄪𑄣𑄭|𑄃𑄉𑄧𑄌𑄴𑄑𑄴|𑄥𑄬𑄛𑄴𑄑𑄬𑄟𑄴𑄝𑄧𑄢𑄴|𑄃𑄧𑄇𑄴𑄑𑄮𑄝𑄧𑄢𑄴|𑄚𑄧𑄞𑄬𑄟𑄴𑄝𑄧𑄢𑄴|𑄓𑄨𑄥𑄬𑄟𑄴𑄝𑄧𑄢𑄴" ∷
    utf8 "𑄢𑄧𑄝𑄨|𑄥𑄧𑄟𑄴|𑄟𑄧𑄁𑄉𑄧𑄣𑄴|𑄝𑄪𑄖𑄴|𑄝𑄳𑄢𑄨𑄥𑄪𑄛𑄴|𑄥𑄪𑄇𑄴𑄇𑄮𑄢𑄴|𑄥𑄧𑄚𑄨" ∷
    utf8 "𑄢𑄧𑄝𑄨𑄝𑄢𑄴|𑄥𑄧𑄟𑄴𑄝𑄢𑄴|𑄟𑄧𑄁𑄉𑄧𑄣𑄴𑄝𑄢𑄴|𑄝𑄪𑄖𑄴𑄝𑄢𑄴|𑄝𑄳𑄢𑄨𑄥𑄪𑄛𑄴𑄝𑄢𑄴|𑄥𑄪𑄇𑄴𑄇𑄮𑄢𑄴𑄝𑄢𑄴|𑄥𑄧𑄚𑄨𑄝𑄢𑄴" ∷
    utf8 "𑄢𑄧|𑄥𑄧|𑄟𑄧|𑄝𑄪|𑄝𑄳𑄢𑄨|𑄥𑄪|𑄥𑄧" ∷
    utf8 "𑄈𑄳𑄢𑄨𑄌𑄴𑄑𑄴𑄛𑄫𑄢𑄴𑄝𑄧|𑄈𑄳𑄢𑄨𑄌𑄴𑄑𑄛𑄴𑄘𑄧" ∷
    utf8 "||𑄛𑄧𑄖𑄳𑄠𑄃𑄟𑄧𑄣𑄳𑄠𑄬|𑄘𑄨𑄝𑄪𑄎𑄳𑄠|𑄥𑄎𑄧𑄚𑄳𑄠|𑄢𑄬𑄖𑄴|𑄝𑄬𑄚𑄳𑄠𑄬|𑄝𑄬𑄣𑄳𑄠𑄬||" ∷
    utf8 "UTC|𑄘𑄇𑄴𑄘𑄨𑄠 𑄛𑄨𑄖𑄴𑄗𑄨𑄟𑄨𑄢𑄴 𑄃𑄧𑄇𑄴𑄖𑄧" ∷
    utf8 "бутт|де|сахьт|минот|секунд|делкъал тӀехьа" ∷ utf8 "янв|фев|мар|апр|май|июн|июл|авг|сен|окт|ноя|дек" ∷
    utf8 "январь|февраль|март|апрель|май|июнь|июль|август|сентябрь|октябрь|ноябрь|декабрь" ∷
    utf8 "Я|Ф|М|А|М|И|И|А|С|О|Н|Д" ∷
    []

unfoldable pub texts_7 : List Text
texts_7 =
    utf8 "кӀи|ор|ши|кха|еа|пӀе|шуо" ∷ utf8 "кӀира|оршот|шинара|кхаара|еара|пӀераска|шуот" ∷ utf8 "кӀ|о|ш|кх|е|пӀ|ш" ∷
    utf8 "в. э. тӀ. я|в. э" ∷ utf8 "Ӏийса пайхамар вина де кхачале|Ӏийса пайхамар вина дийнахь дуьйна" ∷
    utf8 "E, MMM d, y G" ∷ utf8 "MMM d, y G" ∷ utf8 "EEEE, MMMM d, y" ∷ utf8 "MMMM d, y" ∷ utf8 "M/d/yy" ∷
    utf8 "1 'sa' 0" ∷ utf8 "buwan|adlaw|oras|minuto|segundo|AM/PM" ∷
    utf8 "Ene|Peb|Mar|Abr|May|Hun|Hul|Ago|Sep|Okt|Nob|Dis" ∷
    utf8 "Enero|Pebrero|Marso|Abril|Mayo|Hunyo|Hulyo|Agosto|Septiyembre|Oktubre|Nobyembre|Disyembre" ∷
    utf8 "E|P|M|A|M|H|H|A|S|O|N|D" ∷ utf8 "Dom|Lun|Mar|Miy|Huw|Biy|Sab" ∷
    utf8 "Domingo|Lunes|Martes|Miyerkules|Huwebes|Biyernes|Sabado" ∷ utf8 "D|L|M|M|H|B|S" ∷
    utf8 "Sa Wala Pa Si Kristo|Anno Domini" ∷ utf8 "UTC|Coordinated Universal Time" ∷
    utf8 "Omwezi|Eizooba|Shaaha|Edakiika|Obucweka/Esekendi|Nyomushana/nyekiro" ∷
    utf8 "KBZ|KBR|KST|KKN|KTN|KMK|KMS|KMN|KMW|KKM|KNK|KNB" ∷
    utf8 "Okwokubanza|Okwakabiri|Okwakashatu|Okwakana|Okwakataana|Okwamukaaga|Okwamushanju|Okwamunaana|Okwamwenda|Okwaikumi|Okwaikumi na kumwe|Okwaikumi na ibiri" ∷
    utf8 "SAN|ORK|OKB|OKS|OKN|OKT|OMK" ∷
    utf8 "Sande|Orwokubanza|Orwakabiri|Orwakashatu|Orwakana|Orwakataano|Orwamukaaga" ∷ utf8 "S|K|R|S|N|T|M" ∷
    utf8 "Kurisito Atakaijire|Kurisito Yaijire" ∷ utf8 "M/d/y GGGGG" ∷ utf8 "1 ᎤᎾᎢ 0" ∷
    utf8 "ᎧᎸᎢ|ᎢᎦ|ᏑᏟᎶᏓ|ᎢᏯᏔᏬᏍᏔᏅ|ᎠᏎᏢ|ᏌᎾᎴ/ᏒᎯᏱ" ∷ utf8 "ᎤᏃ|ᎧᎦ|ᎠᏅ|ᎧᏬ|ᎠᏂ|ᏕᎭ|ᎫᏰ|ᎦᎶ|ᏚᎵ|ᏚᏂ|ᏅᏓ|ᎥᏍ" ∷
    utf8 "ᎤᏃᎸᏔᏅ|ᎧᎦᎵ|ᎠᏅᏱ|ᎧᏬᏂ|ᎠᏂᏍᎬᏘ|ᏕᎭᎷᏱ|ᎫᏰᏉᏂ|ᎦᎶᏂ|ᏚᎵᏍᏗ|ᏚᏂᏅᏗ|ᏅᏓᏕᏆ|ᎥᏍᎩᏱ" ∷ utf8 "Ꭴ|Ꭷ|Ꭰ|Ꭷ|Ꭰ|Ꮥ|Ꭻ|Ꭶ|Ꮪ|Ꮪ|Ꮕ|Ꭵ" ∷
    utf8 "ᏆᏍᎬ|ᏉᏅᎯ|ᏔᎵᏁ|ᏦᎢᏁ|ᏅᎩᏁ|ᏧᎾᎩ|ᏈᏕᎾ" ∷ utf8 "ᎤᎾᏙᏓᏆᏍᎬ|ᎤᎾᏙᏓᏉᏅᎯ|ᏔᎵᏁᎢᎦ|ᏦᎢᏁᎢᎦ|ᏅᎩᏁᎢᎦ|ᏧᎾᎩᎶᏍᏗ|ᎤᎾᏙᏓᏈᏕᎾ" ∷
    utf8 "Ꮖ|Ꮙ|Ꮤ|Ꮶ|Ꮕ|Ꮷ|Ꭴ" ∷ utf8 "ᏧᏓᎷᎸ ᎤᎷᎯᏍᏗ ᎦᎶᏁᏛ|ᎠᏃ ᏙᎻᏂ" ∷ utf8 "ᏌᎾᎴ|ᏒᎯᏱᎢ" ∷ utf8 "ᏌᎾᎴ|ᏒᎯᏱᎢᏗᏢ" ∷ utf8 "Ꮜ|Ꮢ" ∷
    utf8 "2222222222223333333333331" ∷ utf8 "|ᎢᎦ|ᏌᎾᎴ|ᏒᎯᏱᎢᏗᏢ||||||" ∷ utf8 "|Ꭲ|ᏌᎾᎴ|ᏒᎯᏱᎢᏗᏢ||||||" ∷
    utf8 "UTC|ᎢᎩᏠᏱ ᏂᎦᏓ ᎠᏟᎢᎵᏒ" ∷ utf8 "E d\u{6be}\u{6d5}\u{645}" ∷ utf8 "E، M/d" ∷ utf8 "E، d\u{6cc} MMM" ∷
    utf8 "d\u{6cc} MMM" ∷ utf8 "h\u{6cc} a" ∷ utf8 "d\u{6cc} MMMM\u{6cc} y" ∷ utf8 "d\u{6cc} MMM\u{6cc} y" ∷
    utf8 "E، d/M/y" ∷ utf8 "MMM\u{6cc} y" ∷ utf8 "E، d\u{6cc} MMM\u{6cc} y" ∷
    utf8 "\u{6a9}\u{627}\u{646}\u{648}\u{648}\u{646}\u{6cc} \u{62f}\u{648}\u{648}\u{6d5}\u{645}|\u{634}\u{648}\u{628}\u{627}\u{62a}|\u{626}\u{627}\u{632}\u{627}\u{631}|\u{646}\u{6cc}\u{633}\u{627}\u{646}|\u{626}\u{627}\u{6cc}\u{627}\u{631}|\u{62d}\u{648}\u{632}\u{6d5}\u{6cc}\u{631}\u{627}\u{646}|\u{62a}\u{6d5}\u{645}\u{648}\u{648}\u{632}|\u{626}\u{627}\u{628}|\u{626}\u{6d5}\u{6cc}\u{644}\u{648}\u{648}\u{644}|\u{62a}\u{634}\u{631}\u{6cc}\u{646}\u{6cc} \u{6cc}\u{6d5}\u{6a9}\u{6d5}\u{645}|\u{62a}\u{634}\u{631}\u{6cc}\u{646}\u{6cc} \u{62f}\u{648}\u{648}\u{6d5}\u{645}|\u{6a9}\u{627}\u{646}\u{648}\u{646}\u{6cc} \u{6cc}\u{6d5}\u{6a9}\u{6d5}\u{645}" ∷
    utf8 "\u{6a9}|\u{634}|\u{626}|\u{646}|\u{626}|\u{62d}|\u{62a}|\u{626}|\u{626}|\u{62a}|\u{62a}|\u{6a9}" ∷
    utf8 "\u{6cc}\u{6d5}\u{6a9}\u{634}\u{6d5}\u{645}\u{645}\u{6d5}|\u{62f}\u{648}\u{648}\u{634}\u{6d5}\u{645}\u{645}\u{6d5}|\u{633}\u{6ce}\u{634}\u{6d5}\u{645}\u{645}\u{6d5}|\u{686}\u{648}\u{627}\u{631}\u{634}\u{6d5}\u{645}\u{645}\u{6d5}|\u{67e}\u{6ce}\u{646}\u{62c}\u{634}\u{6d5}\u{645}\u{645}\u{6d5}|\u{6be}\u{6d5}\u{6cc}\u{646}\u{6cc}|\u{634}\u{6d5}\u{645}\u{645}\u{6d5}" ∷
    utf8 "\u{6cc}|\u{62f}|\u{633}|\u{686}|\u{67e}|\u{6be}|\u{634}" ∷
    utf8 "\u{67e}\u{6ce}\u{634} \u{632}\u{627}\u{6cc}\u{6cc}\u{646}|\u{632}\u{627}\u{6cc}\u{6cc}\u{646}\u{6cc}" ∷
    utf8 "\u{628}.\u{646}|\u{62f}.\u{646}" ∷ utf8 "\u{6af}\u{631}\u{6cc}\u{646}\u{6cc}\u{686} ||+||-||:" ∷
    utf8 "E d." ∷ utf8 "E, d. M. y G" ∷ utf8 "LLLL y G" ∷ utf8 "E d. M. y G" ∷ utf8 "E d. MMMM y G" ∷
    utf8 "d. MMMM y G" ∷ utf8 "d. M. y G" ∷ utf8 "d. M. y GGGGG" ∷ utf8 "H:mm:ss, zzzz" ∷ utf8 "H:mm:ss, vvvv" ∷
    utf8 "H:mm, vvvv" ∷ utf8 "E d. M." ∷ utf8 "E d. MMMM" ∷ utf8 "h:mm:ss a, vvvv" ∷ utf8 "h:mm a, vvvv" ∷
    utf8 "EEEE d. MMMM y" ∷ utf8 "d. MMMM y" ∷ utf8 "d. M. y" ∷ utf8 "E d. M. y" ∷ utf8 "E d. MMMM y" ∷
    utf8 "1 'v' 0" ∷ utf8 "měsíc|den|hodina|minuta|sekunda|část dne" ∷
    utf8 "led|úno|bře|dub|kvě|čvn|čvc|srp|zář|říj|lis|pro" ∷
    utf8 "ledna|února|března|dubna|května|června|července|srpna|září|října|listopadu|prosince" ∷
    utf8 "leden|únor|březen|duben|květen|červen|červenec|srpen|září|říjen|listopad|prosinec" ∷
    utf8 "ne|po|út|st|čt|pá|so" ∷ utf8 "neděle|pondělí|úterý|středa|čtvrtek|pátek|sobota" ∷ utf8 "N|P|Ú|S|Č|P|S" ∷
    utf8 "př. n. l.|n. l." ∷ utf8 "před naším letopočtem|našeho letopočtu" ∷ utf8 "př.n.l.|n.l." ∷ utf8 "dop.|odp." ∷
    utf8 "5555222226663333334444551" ∷ utf8 "|pol.|r.|odp.|več.|v n.|dop.|||" ∷
    utf8 "|poledne|ráno|odpoledne|večer|v noci|dopoledne|||" ∷ utf8 "|pol.|r.|o.|v.|n.|d.|||" ∷
    utf8 "UTC|koordinovaný světový čas" ∷ utf8 "ᐲᓯᒼ|ᑮᓯᑳᐤ|ᐚᐢᑳᐸᓂᐤ|ᑎᐸᐦᐃᑲᓂᐢ|Second|Dayperiod" ∷
    utf8 "ᐅᒉᒥᑮᓯᑳᐏᐲᓯᒼ|ᐸᐚᐦᒐᑭᓇᓰᐢ|ᒥᑭᓯᐏᐲᓯᒼ|ᓂᐢᑭᐲᓯᒼ|ᐊᓃᑭᐲᓯᒼ|ᐚᐏᐲᓯᒼ|ᐹᐢᑲᐦᐋᐏᐲᓯᒼ|ᐅᐸᐦᐅᐏᐲᓯᒼ|ᓄᒌᑐᐏᐲᓯᒼ|ᐱᓈᐢᑯᐏᐲᓯᒼ|ᐋᕽᐘᑎᓄᐏᐲᓯᒼ|ᒪᑯᓭᑮᓭᑳᐏᐲᓯᒼ" ∷
    utf8 "ᐊᔭᒥᐦᐁᑮᓯᑳᐤ|ᐴᓂ\u{a0}ᐊᔭᒥᐦᐁᑮᓯᑳᐤ|ᓃᓱᑮᓯᑳᐤ|ᐋᐱᐦᑕᐘᐣ|ᐴᓂᐋᐱᐦᑕᐘᐣ|ᑫᑳᐨ ᒫᑎᓇᐍᑮᓯᑳᐤ|ᒫᑎᓇᐍᑮᓯᑳᐤ" ∷ utf8 "ᐊ|ᐴ|ᓃ|ᐋ|ᐴ|ᑫ|ᒫ" ∷
    utf8 "ᐊᒼ|ᐲᒼ" ∷ utf8 "ᐁᒼ|ᐲᒼ" ∷ utf8 "E, B h" ∷ utf8 "ccc, B h:mm" ∷ utf8 "ccc, B h:mm:ss" ∷ utf8 "d, ccc" ∷
    utf8 "E, a h" ∷ utf8 "E, a h:mm" ∷ utf8 "E, a h:mm:ss" ∷ utf8 "G y.MM" ∷ utf8 "G y.MM.dd (E)" ∷ utf8 "G y, MMM" ∷
    utf8 "G y, MMM, d, E" ∷ utf8 "G y, MMM, d" ∷ utf8 "G y.MM.dd" ∷ utf8 "HH 'сех'" ∷ utf8 "HH:mm:ss (zzzz)" ∷
    utf8 "HH:mm:ss (z)" ∷
    []

unfoldable pub texts_8 : List Text
texts_8 =
    utf8 "HH 'сех' (v)" ∷ utf8 "MM.dd (E)" ∷ utf8 "MMM, d, E" ∷ utf8 "MMMM, d" ∷ utf8 "MMM, d" ∷ utf8 "MM.dd" ∷
    utf8 "a h:mm:ss (v)" ∷ utf8 "a h:mm (v)" ∷ utf8 "a h (v)" ∷ utf8 "y, MMMM, d, EEEE" ∷ utf8 "y, MMMM, d" ∷
    utf8 "y, MMM, d" ∷ utf8 "y.MM.dd" ∷ utf8 "y.MM" ∷ utf8 "y.MM.dd (ccc)" ∷ utf8 "y, MMM" ∷ utf8 "y, MMM, d, E" ∷
    utf8 "y, MMMM" ∷ utf8 "0 (1)" ∷ utf8 "уйӑх|кун|сехет|минут|ҫеккунт|к. у./к. х." ∷
    utf8 "кӑр.|нар.|пуш|ака|ҫу|ҫӗрт.|утӑ|ҫур.|авӑн|юпа|чӳк|раш." ∷
    utf8 "кӑрлач|нарӑс|пуш|ака|ҫу|ҫӗртме|утӑ|ҫурла|авӑн|юпа|чӳк|раштав" ∷ utf8 "К|Н|П|А|Ҫ|Ҫ|У|Ҫ|А|Ю|Ч|Р" ∷
    utf8 "вр|тн|ыт|юн|кҫ|эр|шм" ∷ utf8 "вырсарни кун|тунти кун|ытлари кун|юн кун|кӗҫнерни кун|эрне кун|шӑмат кун" ∷
    utf8 "В|Т|Ы|Ю|К|Э|Ш" ∷ utf8 "х. с-ч.|х. с." ∷ utf8 "хальхи саманачченхи|хальхи саманари" ∷ utf8 "к. у.|к. х." ∷
    utf8 "UTC|Пӗтӗм тӗнчери килӗштернӗ вӑхӑт" ∷ utf8 "E, h:mm a" ∷ utf8 "E, h:mm:ss a" ∷ utf8 "dd/MM/yy" ∷
    utf8 "1 'am' 0" ∷ utf8 "mis|diwrnod|awr|munud|eiliad|AM/PM" ∷
    utf8 "Ion|Chwef|Maw|Ebr|Mai|Meh|Gorff|Awst|Medi|Hyd|Tach|Rhag" ∷
    utf8 "Ionawr|Chwefror|Mawrth|Ebrill|Mai|Mehefin|Gorffennaf|Awst|Medi|Hydref|Tachwedd|Rhagfyr" ∷
    utf8 "I|Ch|M|E|M|M|G|A|M|H|T|Rh" ∷ utf8 "Ion|Chw|Maw|Ebr|Mai|Meh|Gor|Awst|Medi|Hyd|Tach|Rhag" ∷
    utf8 "Sul|Llun|Maw|Mer|Iau|Gwen|Sad" ∷
    utf8 "Dydd Sul|Dydd Llun|Dydd Mawrth|Dydd Mercher|Dydd Iau|Dydd Gwener|Dydd Sadwrn" ∷ utf8 "S|Ll|M|M|I|G|S" ∷
    utf8 "Sul|Llun|Maw|Mer|Iau|Gwe|Sad" ∷ utf8 "CC|OC" ∷ utf8 "Cyn Crist|Oed Crist" ∷ utf8 "C|O" ∷ utf8 "yb|yh" ∷
    utf8 "b|h" ∷ utf8 "2222222222223333334444441" ∷ utf8 "|canol dydd|y bore|y prynhawn|yr hwyr|||||" ∷
    utf8 "|canol dydd|yn y bore|yn y prynhawn|min nos|||||" ∷ utf8 "UTC|Amser Cyffredniol Cydlynol" ∷ utf8 "h.mm B" ∷
    utf8 "h.mm.ss B" ∷ utf8 "E h.mm B" ∷ utf8 "E h.mm.ss B" ∷ utf8 "E HH.mm" ∷ utf8 "E HH.mm.ss" ∷
    utf8 "E 'den' d." ∷ utf8 "E h.mm a" ∷ utf8 "E h.mm.ss a" ∷ utf8 "E d. MMM y G" ∷ utf8 "d. MMM y G" ∷
    utf8 "d.M.y GGGGG" ∷ utf8 "HH.mm.ss zzzz" ∷ utf8 "HH.mm.ss z" ∷ utf8 "HH.mm.ss" ∷ utf8 "HH.mm" ∷
    utf8 "HH.mm.ss v" ∷ utf8 "HH.mm v" ∷ utf8 "E d.M" ∷ utf8 "E d. MMM" ∷ utf8 "h.mm a" ∷ utf8 "h.mm.ss a" ∷
    utf8 "h.mm.ss a v" ∷ utf8 "h.mm a v" ∷ utf8 "EEEE 'den' d. MMMM y" ∷ utf8 "d. MMM y" ∷ utf8 "E d.M.y" ∷
    utf8 "E d. MMM y" ∷ utf8 "1 'kl'. 0" ∷ utf8 "måned|dag|time|minut|sekund|AM/PM" ∷
    utf8 "jan.|feb.|mar.|apr.|maj|jun.|jul.|aug.|sep.|okt.|nov.|dec." ∷
    utf8 "januar|februar|marts|april|maj|juni|juli|august|september|oktober|november|december" ∷
    utf8 "søn.|man.|tirs.|ons.|tors.|fre.|lør." ∷ utf8 "søndag|mandag|tirsdag|onsdag|torsdag|fredag|lørdag" ∷
    utf8 "S|M|T|O|T|F|L" ∷ utf8 "f.Kr.|e.Kr." ∷ utf8 "før Kristus|efter Kristus" ∷ utf8 "fKr|eKr" ∷
    utf8 "555552222266333333444444" ∷ utf8 "||om morgenen|om eftermiddagen|om aftenen|om natten|om formiddagen|||" ∷
    utf8 "GMT||+||-||." ∷ utf8 "UTC|Koordineret universaltid" ∷ utf8 "Mori|Ituku|Saa|Dakika|Sekunde|KE/PE" ∷
    utf8 "Imb|Kaw|Kad|Kan|Kas|Kar|Mfu|Wun|Ike|Iku|Imw|Iwi" ∷
    utf8 "Mori ghwa imbiri|Mori ghwa kawi|Mori ghwa kadadu|Mori ghwa kana|Mori ghwa kasanu|Mori ghwa karandadu|Mori ghwa mfungade|Mori ghwa wunyanya|Mori ghwa ikenda|Mori ghwa ikumi|Mori ghwa ikumi na imweri|Mori ghwa ikumi na iwi" ∷
    utf8 "I|K|K|K|K|K|M|W|I|I|I|I" ∷ utf8 "Jum|Jim|Kaw|Kad|Kan|Kas|Ngu" ∷
    utf8 "Ituku ja jumwa|Kuramuka jimweri|Kuramuka kawi|Kuramuka kadadu|Kuramuka kana|Kuramuka kasanu|Kifula nguwo" ∷
    utf8 "J|J|K|K|K|K|N" ∷ utf8 "KK|BK" ∷ utf8 "Kabla ya Kristo|Baada ya Kristo" ∷ utf8 "Luma lwa K|luma lwa p" ∷
    utf8 "h 'Uhr' B" ∷ utf8 "E, h 'Uhr' B" ∷ utf8 "E, h:mm 'Uhr' B" ∷ utf8 "E, h:mm:ss 'Uhr' B" ∷
    utf8 "E, dd.MM.y G" ∷ utf8 "E, d. MMM y G" ∷ utf8 "dd.MM.y G" ∷ utf8 "HH 'Uhr'" ∷ utf8 "HH 'Uhr' v" ∷
    utf8 "E, d.M." ∷ utf8 "dd.MM." ∷ utf8 "d.M." ∷ utf8 "EEEE, d. MMMM y" ∷ utf8 "E, d. MMM y" ∷ utf8 "1 'um' 0" ∷
    utf8 "Monat|Tag|Stunde|Minute|Sekunde|Tageshälfte" ∷
    []

unfoldable pub texts_9 : List Text
texts_9 =
    utf8 "Jan.|Feb.|März|Apr.|Mai|Juni|Juli|Aug.|Sept.|Okt.|Nov.|Dez." ∷
    utf8 "Januar|Februar|März|April|Mai|Juni|Juli|August|September|Oktober|November|Dezember" ∷
    utf8 "Jan|Feb|Mär|Apr|Mai|Jun|Jul|Aug|Sep|Okt|Nov|Dez" ∷ utf8 "So.|Mo.|Di.|Mi.|Do.|Fr.|Sa." ∷
    utf8 "Sonntag|Montag|Dienstag|Mittwoch|Donnerstag|Freitag|Samstag" ∷ utf8 "S|M|D|M|D|F|S" ∷
    utf8 "So|Mo|Di|Mi|Do|Fr|Sa" ∷ utf8 "v. Chr.|n. Chr." ∷ utf8 "555552222266377777444444" ∷
    utf8 "||morgens|mittags|abends|nachts|vorm.|nachm.||" ∷
    utf8 "||morgens|mittags|abends|nachts|vormittags|nachmittags||" ∷ utf8 "UTC|Koordinierte Weltzeit" ∷
    utf8 "Handu|Zaari|Guuru|Miniti|Miti|Subbaahi/Zaarikay banda" ∷
    utf8 "Žan|Fee|Mar|Awi|Me|Žuw|Žuy|Ut|Sek|Okt|Noo|Dee" ∷
    utf8 "Žanwiye|Feewiriye|Marsi|Awiril|Me|Žuweŋ|Žuyye|Ut|Sektanbur|Oktoobur|Noowanbur|Deesanbur" ∷
    utf8 "Ž|F|M|A|M|Ž|Ž|U|S|O|N|D" ∷ utf8 "Alh|Ati|Ata|Ala|Alm|Alz|Asi" ∷
    utf8 "Alhadi|Atinni|Atalaata|Alarba|Alhamisi|Alzuma|Asibti" ∷ utf8 "H|T|T|L|M|Z|S" ∷ utf8 "IJ|IZ" ∷
    utf8 "Isaa jine|Isaa zamanoo" ∷ utf8 "Subbaahi|Zaarikay b" ∷ utf8 "E, d, MMM G y" ∷ utf8 "d, MMM G y" ∷
    utf8 "EEEE, d, MMMM y" ∷ utf8 "d, MMMM y" ∷ utf8 "d, MMM y" ∷ utf8 "E, d, MMM y" ∷ utf8 "1 गी 0" ∷
    utf8 "म्हीना|दिन|घैंटा|मिंट्\u{200c}ट|सकैंट|सवेर/बा.दपै." ∷
    utf8 "जन.|फर.|मार्च|अप्रैल|मेई|जून|जुलाई|अग.|सित.|अक्तू.|नव.|दिस." ∷
    utf8 "जनवरी|फरवरी|मार्च|अप्रैल|मेई|जून|जुलाई|अगस्त|सितंबर|अक्तूबर|नवंबर|दिसंबर" ∷
    utf8 "ज|फ|मा|अ|मे|जू|जु|अ|सि|अ|न|दि" ∷
    utf8 "ऐत|सोम|मंगल|बुध|बीर|शुक्र|शनि" ∷
    utf8 "ऐतबार|सोमबार|मंगलबार|बुधबार|बीरबार|शुक्रबार|शनिबार" ∷
    utf8 "ऐ.|सो.|म.|बु.|बी.|शु.|श." ∷ utf8 "ऐ|सो|म.|बु.|बी.|शु.|श." ∷
    utf8 "ई.पू.|ईसवी" ∷ utf8 "ई.पू.|ई. सन्" ∷ utf8 "सवेर|स’ञ" ∷
    utf8 "सवेर|दपैहर बाद" ∷ utf8 "UTC|तालमेली आलमी समां" ∷
    utf8 "'zeg'. h B" ∷ utf8 "E, 'zeg'. h B" ∷ utf8 "E, 'zeg'. H:mm" ∷ utf8 "E, d.M.y G" ∷ utf8 "'zeg'. H" ∷
    utf8 "H:mm:ss zzzz" ∷ utf8 "'zeg'. H:mm" ∷ utf8 "'zeg'. H v" ∷ utf8 "'zeg'. h a v" ∷ utf8 "d.M.yy" ∷
    utf8 "1 'zeger' 0" ∷ utf8 "mjasec|źeń|góźina|minuta|sekunda|połojca dnja" ∷
    utf8 "jan.|feb.|měr.|apr.|maj.|jun.|jul.|awg.|sep.|okt.|now.|dec." ∷
    utf8 "januara|februara|měrca|apryla|maja|junija|julija|awgusta|septembra|oktobra|nowembra|decembra" ∷
    utf8 "jan|feb|měr|apr|maj|jun|jul|awg|sep|okt|now|dec" ∷
    utf8 "januar|februar|měrc|apryl|maj|junij|julij|awgust|september|oktober|nowember|december" ∷
    utf8 "nje|pón|wał|srj|stw|pět|sob" ∷ utf8 "njeźela|pónjeźele|wałtora|srjoda|stwórtk|pětk|sobota" ∷
    utf8 "n|p|w|s|s|p|s" ∷ utf8 "pś.Chr.n.|pó Chr.n." ∷ utf8 "pśed Kristusowym naroźenim|pó Kristusowem naroźenju" ∷
    utf8 "dop.|wótp." ∷ utf8 "dopołdnja|wótpołdnja" ∷ utf8 "UTC|koordiněrowany swětowy cas" ∷
    utf8 "mɔ́di|búnyá|ŋgandɛ|ndɔkɔ|píndí|epasi a búnyá" ∷
    utf8 "di|ŋgɔn|sɔŋ|diɓ|emi|esɔ|mad|diŋ|nyɛt|may|tin|elá" ∷
    utf8 "dimɔ́di|ŋgɔndɛ|sɔŋɛ|diɓáɓá|emiasele|esɔpɛsɔpɛ|madiɓɛ́díɓɛ́|diŋgindi|nyɛtɛki|mayésɛ́|tiníní|eláŋgɛ́" ∷
    utf8 "d|ŋ|s|d|e|e|m|d|n|m|t|e" ∷ utf8 "ét|mɔ́s|kwa|muk|ŋgi|ɗón|esa" ∷
    utf8 "éti|mɔ́sú|kwasú|mukɔ́sú|ŋgisú|ɗónɛsú|esaɓasú" ∷ utf8 "e|m|k|m|ŋ|ɗ|e" ∷ utf8 "ɓ.Ys|mb.Ys" ∷
    utf8 "ɓoso ɓwá yáɓe lá|mbúsa kwédi a Yés" ∷ utf8 "idiɓa|ebyámu" ∷
    utf8 "Fuleeŋ|Funak|Hour|Minute|Second|Bujom / Kalíim" ∷ utf8 "Sa|Fe|Ma|Ab|Me|Su|Sú|Ut|Se|Ok|No|De" ∷
    utf8 "Sanvie|Fébirie|Mars|Aburil|Mee|Sueŋ|Súuyee|Ut|Settembar|Oktobar|Novembar|Disambar" ∷
    utf8 "S|F|M|A|M|S|S|U|S|O|N|D" ∷ utf8 "Dim|Ten|Tal|Ala|Ara|Arj|Sib" ∷
    utf8 "Dimas|Teneŋ|Talata|Alarbay|Aramisay|Arjuma|Sibiti" ∷ utf8 "D|T|T|A|A|A|S" ∷ utf8 "ArY|AtY" ∷
    utf8 "Ariŋuu Yeesu|Atooŋe Yeesu" ∷ utf8 "G y སྤྱི་ཟླ་MMM" ∷
    utf8 "གཟའ་E, G ལོy ཟླ་MMM ཚེ་d" ∷ utf8 "ཆུ་ཚོད་HH" ∷ utf8 "E, M-d" ∷
    utf8 "སྤྱི་LLL" ∷ utf8 "E, སྤྱི་LLL ཚེ་d" ∷
    utf8 "སྤྱི་LLL ཚེ་d" ∷ utf8 "M-d" ∷
    utf8 "ཆུ་ཚོད་ h སྐར་མ་ mm:ss a zzzz" ∷ utf8 "ཆུ་ཚོད་ h སྐར་མ་ mm:ss a z" ∷
    utf8 "ཆུ་ཚོད་h:mm:ss a" ∷ utf8 "ཆུ་ཚོད་ h སྐར་མ་ mm a" ∷
    utf8 "ཆུ་ཚོད་h a" ∷ utf8 "EEEE, སྤྱི་ལོ་y MMMM ཚེས་dd" ∷
    utf8 "སྤྱི་ལོ་y MMMM ཚེས་ dd" ∷
    utf8 "སྤྱི་ལོ་y ཟླ་MMM ཚེས་dd" ∷ utf8 "y-M" ∷ utf8 "E, y-M-d" ∷
    utf8 "y སྤྱི་ཟླ་MMM" ∷ utf8 "གཟའ་E, ལོy ཟླ་MMM ཚེ་d" ∷ utf8 "y-M-d" ∷
    utf8 "ཟླ་ཝ་|ཚེས་|ཆུ་ཚོད|སྐར་མ|སྐར་ཆཱ་|སྔ་ཆ/ཕྱི་ཆ་" ∷
    utf8 "༡|༢|༣|༤|༥|༦|༧|༨|༩|༡༠|༡༡|12" ∷
    utf8 "ཟླ་དངཔ་|ཟླ་གཉིས་པ་|ཟླ་གསུམ་པ་|ཟླ་བཞི་པ་|ཟླ་ལྔ་པ་|ཟླ་དྲུག་པ|ཟླ་བདུན་པ་|ཟླ་བརྒྱད་པ་|ཟླ་དགུ་པ་|ཟླ་བཅུ་པ་|ཟླ་བཅུ་གཅིག་པ་|ཟླ་བཅུ་གཉིས་པ་" ∷
    utf8 "༡|༢|༣|4|༥|༦|༧|༨|9|༡༠|༡༡|༡༢" ∷
    utf8 "སྤྱི་ཟླ་དངཔ་|སྤྱི་ཟླ་གཉིས་པ་|སྤྱི་ཟླ་གསུམ་པ་|སྤྱི་ཟླ་བཞི་པ|སྤྱི་ཟླ་ལྔ་པ་|སྤྱི་ཟླ་དྲུག་པ|སྤྱི་ཟླ་བདུན་པ་|སྤྱི་ཟླ་བརྒྱད་པ་|སྤྱི་ཟླ་དགུ་པ་|སྤྱི་ཟླ་བཅུ་པ་|སྤྱི་ཟླ་བཅུ་གཅིག་པ་|སྤྱི་ཟླ་བཅུ་གཉིས་པ་" ∷
    utf8 "༡|༢|༣|༤|༥|༦|༧|༨|༩|༡༠|༡༡|༡༢" ∷
    utf8 "ཟླ་|མིར་|ལྷག་|ཕུར་|སངས་|སྤེན་|ཉི་" ∷
    utf8 "གཟའ་ཟླ་བ་|གཟའ་མིག་དམར་|གཟའ་ལྷག་པ་|གཟའ་ཕུར་བུ་|གཟའ་པ་སངས་|གཟའ་སྤེན་པ་|གཟའ་ཉི་མ་" ∷
    utf8 "ཟླ|མིར|ལྷག|ཕུར|སངྶ|སྤེན|ཉི" ∷
    utf8 "སྔ་ཆ་|ཕྱི་ཆ་" ∷ utf8 "ཇི་ཨེམ་ཏི་||+||-||:" ∷
    utf8 "Mweri|Mũthenya|Ithaa|Ndagĩka|Sekondi|Dayperiod" ∷ utf8 "Mbe|Kai|Kat|Kan|Gat|Gan|Mug|Knn|Ken|Iku|Imw|Igi" ∷
    utf8 "Mweri wa mbere|Mweri wa kaĩri|Mweri wa kathatũ|Mweri wa kana|Mweri wa gatano|Mweri wa gatantatũ|Mweri wa mũgwanja|Mweri wa kanana|Mweri wa kenda|Mweri wa ikũmi|Mweri wa ikũmi na ũmwe|Mweri wa ikũmi na Kaĩrĩ" ∷
    []

unfoldable pub texts_10 : List Text
texts_10 =
    utf8 "M|K|K|K|G|G|M|K|K|I|I|I" ∷ utf8 "Kma|Tat|Ine|Tan|Arm|Maa|NMM" ∷
    utf8 "Kiumia|Njumatatu|Njumaine|Njumatano|Aramithi|Njumaa|NJumamothii" ∷ utf8 "K|N|N|N|A|M|N" ∷ utf8 "MK|TK" ∷
    utf8 "Mbere ya Kristo|Thutha wa Kristo" ∷ utf8 "KI|UT" ∷ utf8 "'ga' h 'le' B 'me'" ∷
    utf8 "'ga' h 'aɖabaƒoƒo' mm 'le' B 'me'" ∷ utf8 "h:mm:ss 'le' B 'me'" ∷ utf8 "'ga' h:mm 'le' E B 'me'" ∷
    utf8 "'ga' h:mm:ss 'le' E B 'me'" ∷ utf8 "E 'ga' HH:mm" ∷ utf8 "E 'ga' HH:mm:ss" ∷ utf8 "E a 'ga' h:mm" ∷
    utf8 "E a 'ga' h:mm:ss" ∷ utf8 "E, MMM d 'lia' y G" ∷ utf8 "MMM d 'lia', y G" ∷ utf8 "'ga' HH:mm:ss 'le' v" ∷
    utf8 "'ga' HH:mm 'le' v" ∷ utf8 "E, MMM d 'lia'" ∷ utf8 "E, MMMM d 'lia'" ∷ utf8 "MMMM d 'lia'" ∷
    utf8 "MMM d 'lia'" ∷ utf8 "a 'ga' h:mm:ss zzzz" ∷ utf8 "a 'ga' h:mm:ss z" ∷ utf8 "a 'ga' h:mm:ss" ∷
    utf8 "a 'ga' h:mm" ∷ utf8 "a 'ga' h" ∷ utf8 "a 'ga' h:mm:ss 'le' v" ∷ utf8 "a 'ga' h:mm 'le' v" ∷
    utf8 "'aɖabaƒoƒo' mm:ss" ∷ utf8 "EEEE, MMMM d 'lia' y" ∷ utf8 "MMMM d 'lia' y" ∷ utf8 "MMM d 'lia', y" ∷
    utf8 "ɣleti|ŋkeke|gaƒoƒo|aɖabaƒoƒo|sekend|ŋkekea me" ∷ utf8 "dzv|dzd|ted|afɔ|dam|mas|sia|dea|any|kel|ade|dzm" ∷
    utf8 "dzove|dzodze|tedoxe|afɔfĩe|dame|masa|siamlɔm|deasiamime|anyɔnyɔ|kele|adeɛmekpɔxe|dzome" ∷
    utf8 "d|d|t|a|d|m|s|d|a|k|a|d" ∷ utf8 "kɔs|dzo|bla|kuɖ|yaw|fiɖ|mem" ∷
    utf8 "kɔsiɖa|dzoɖa|blaɖa|kuɖa|yawoɖa|fiɖa|memleɖa" ∷ utf8 "k|d|b|k|y|f|m" ∷ utf8 "HYV|Yŋ" ∷
    utf8 "Hafi Yesu Va|Yesu ŋɔli" ∷ utf8 "ŋdi|ɣetrɔ" ∷ utf8 "ŋ|ɣ" ∷ utf8 "555526666666337777444555" ∷
    utf8 "||fɔŋli|ŋdɔ|fiẽ|zã|ŋdi|ɣetrɔ||" ∷ utf8 "| GMT|+||-||:" ∷ utf8 "UTC|Xexeme gaƒoƒoɖoanyi me" ∷
    utf8 "HH:mm:ss (vvvv)" ∷ utf8 "HH:mm (vvvv)" ∷ utf8 "HH'h' (vvvv)" ∷ utf8 "1 στις 0" ∷
    utf8 "μήνας|ημέρα|ώρα|λεπτό|δευτερόλεπτο|π.μ./μ.μ." ∷ utf8 "Ιαν|Φεβ|Μαρ|Απρ|Μαΐ|Ιουν|Ιουλ|Αυγ|Σεπ|Οκτ|Νοε|Δεκ" ∷
    utf8 "Ιανουαρίου|Φεβρουαρίου|Μαρτίου|Απριλίου|Μαΐου|Ιουνίου|Ιουλίου|Αυγούστου|Σεπτεμβρίου|Οκτωβρίου|Νοεμβρίου|Δεκεμβρίου" ∷
    utf8 "Ι|Φ|Μ|Α|Μ|Ι|Ι|Α|Σ|Ο|Ν|Δ" ∷ utf8 "Ιαν|Φεβ|Μάρ|Απρ|Μάι|Ιούν|Ιούλ|Αύγ|Σεπ|Οκτ|Νοέ|Δεκ" ∷
    utf8 "Ιανουάριος|Φεβρουάριος|Μάρτιος|Απρίλιος|Μάιος|Ιούνιος|Ιούλιος|Αύγουστος|Σεπτέμβριος|Οκτώβριος|Νοέμβριος|Δεκέμβριος" ∷
    utf8 "Κυρ|Δευ|Τρί|Τετ|Πέμ|Παρ|Σάβ" ∷ utf8 "Κυριακή|Δευτέρα|Τρίτη|Τετάρτη|Πέμπτη|Παρασκευή|Σάββατο" ∷
    utf8 "Κ|Δ|Τ|Τ|Π|Π|Σ" ∷ utf8 "π.Χ.|μ.Χ." ∷ utf8 "προ Χριστού|μετά Χριστόν" ∷ utf8 "π.μ.|μ.μ." ∷ utf8 "πμ|μμ" ∷
    utf8 "555522222222333334445555" ∷ utf8 "||πρωί|μεσημ.|απόγ.|βράδυ||||" ∷
    utf8 "||το πρωί|το μεσημέρι|το απόγευμα|το βράδυ||||" ∷ utf8 "UTC|Συντονισμένη Παγκόσμια Ώρα" ∷
    utf8 "month|day|hour|minute|second|AM/PM" ∷ utf8 "Jan|Feb|Mar|Apr|May|Jun|Jul|Aug|Sep|Oct|Nov|Dec" ∷
    utf8 "January|February|March|April|May|June|July|August|September|October|November|December" ∷
    utf8 "Sunday|Monday|Tuesday|Wednesday|Thursday|Friday|Saturday" ∷ utf8 "Before Christ|Anno Domini" ∷ utf8 "B|A" ∷
    utf8 "2222222222223333334445551" ∷ utf8 "|noon|in the morning|in the afternoon|in the evening|at night||||" ∷
    utf8 "|n|in the morning|in the afternoon|in the evening|at night||||" ∷ utf8 "HH'H'" ∷ utf8 "HH'H' v" ∷
    utf8 "E, MM-dd" ∷ utf8 "EEEE, 'la' d-'a' 'de' MMMM y" ∷ utf8 "y-MMMM-dd" ∷ utf8 "y-MMM-dd" ∷ utf8 "yy-MM-dd" ∷
    utf8 "E, y-MM-dd" ∷ utf8 "1 'je' 0" ∷ utf8 "monato|tago|horo|minuto|sekundo|tagtempo" ∷
    utf8 "Jan|Feb|Mar|Apr|Maj|Jun|Jul|Aŭg|Sep|Okt|Nov|Dec" ∷
    utf8 "Januaro|Februaro|Marto|Aprilo|Majo|Junio|Julio|Aŭgusto|Septembro|Oktobro|Novembro|Decembro" ∷
    utf8 "di|lu|ma|me|ĵa|ve|sa" ∷ utf8 "dimanĉo|lundo|mardo|merkredo|ĵaŭdo|vendredo|sabato" ∷ utf8 "d|l|m|m|ĵ|v|s" ∷
    utf8 "a.n.e.|n.e." ∷ utf8 "antaŭ nia erao|de nia erao" ∷ utf8 "atm|ptm" ∷
    utf8 "UTC|universala tempo kunordigita" ∷ utf8 "E, H:mm" ∷ utf8 "E, H:mm:ss" ∷ utf8 "MMMM 'de' y G" ∷
    utf8 "E, d 'de' MMMM 'de' y G" ∷ utf8 "d 'de' MMMM 'de' y G" ∷ utf8 "d/M/y G" ∷ utf8 "E, d 'de' MMMM" ∷
    utf8 "d 'de' MMMM" ∷ utf8 "EEEE, d 'de' MMMM 'de' y" ∷ utf8 "d 'de' MMMM 'de' y" ∷ utf8 "EEE, d/M/y" ∷
    utf8 "EEE, d MMM y" ∷ utf8 "MMMM 'de' y" ∷ utf8 "EEE, d 'de' MMMM 'de' y" ∷ utf8 "1 'a' 'las' 0" ∷
    utf8 "mes|día|hora|minuto|segundo|a.\u{a0}m./p.\u{a0}m." ∷
    utf8 "ene|feb|mar|abr|may|jun|jul|ago|sept|oct|nov|dic" ∷
    utf8 "enero|febrero|marzo|abril|mayo|junio|julio|agosto|septiembre|octubre|noviembre|diciembre" ∷
    utf8 "E|F|M|A|M|J|J|A|S|O|N|D" ∷ utf8 "dom|lun|mar|mié|jue|vie|sáb" ∷
    utf8 "domingo|lunes|martes|miércoles|jueves|viernes|sábado" ∷
    []

unfoldable pub texts_11 : List Text
texts_11 =
    utf8 "D|L|M|X|J|V|S" ∷ utf8 "a. C.|d. C." ∷ utf8 "antes de Cristo|después de Cristo" ∷
    utf8 "2222226666664444444455551" ∷
    utf8 "|del mediodía|de la madrugada||de la tarde|de la noche|de la mañana|||" ∷
    utf8 "UTC|tiempo universal coordinado" ∷ utf8 "MM.y G" ∷ utf8 "E, d. MMMM y G" ∷ utf8 "d.MM.y GGGGG" ∷
    utf8 "E, d. MMMM y" ∷ utf8 "1, 'kell' 0" ∷ utf8 "kuu|päev|tund|minut|sekund|enne/pärast lõunat" ∷
    utf8 "jaan|veebr|märts|apr|mai|juuni|juuli|aug|sept|okt|nov|dets" ∷
    utf8 "jaanuar|veebruar|märts|aprill|mai|juuni|juuli|august|september|oktoober|november|detsember" ∷
    utf8 "J|V|M|A|M|J|J|A|S|O|N|D" ∷ utf8 "P|E|T|K|N|R|L" ∷
    utf8 "pühapäev|esmaspäev|teisipäev|kolmapäev|neljapäev|reede|laupäev" ∷ utf8 "eKr|pKr" ∷
    utf8 "enne Kristust|pärast Kristust" ∷ utf8 "5555522222223333334444451" ∷
    utf8 "|keskpäeval|hommikul|pärastlõunal|õhtul|öösel||||" ∷ utf8 "GMT ||+||−||:" ∷
    utf8 "UTC|Koordineeritud maailmaaeg" ∷ utf8 "G y/M" ∷ utf8 "G y/M/d, E" ∷ utf8 "G y. 'urteko' MMM" ∷
    utf8 "G y. 'urteko' MMM d('a'), E" ∷ utf8 "G y. 'urteko' MMM d('a')" ∷ utf8 "M/d, E" ∷ utf8 "MMM d('a'), E" ∷
    utf8 "MMMM'ren' d('a')" ∷ utf8 "MMM d('a')" ∷ utf8 "y('e')'ko' MMMM'ren' d('a'), EEEE" ∷
    utf8 "y('e')'ko' MMMM'ren' d('a')" ∷ utf8 "y MMM d('a')" ∷ utf8 "yy/M/d" ∷ utf8 "y/M" ∷ utf8 "y/M/d, E" ∷
    utf8 "y MMM d('a'), E" ∷ utf8 "y('e')'ko' MMMM" ∷ utf8 "y('e')'ko' MMMM'ren' d('a'), E" ∷
    utf8 "y('e')'ko' MMM d('a')" ∷ utf8 "1 (0)" ∷ utf8 "hilabetea|eguna|ordua|minutua|segundoa|AM/PM" ∷
    utf8 "urt.|ots.|mar.|api.|mai.|eka.|uzt.|abu.|ira.|urr.|aza.|abe." ∷
    utf8 "urtarrila|otsaila|martxoa|apirila|maiatza|ekaina|uztaila|abuztua|iraila|urria|azaroa|abendua" ∷
    utf8 "U|O|M|A|M|E|U|A|I|U|A|A" ∷ utf8 "ig.|al.|ar.|az.|og.|or.|lr." ∷
    utf8 "igandea|astelehena|asteartea|asteazkena|osteguna|ostirala|larunbata" ∷ utf8 "I|A|A|A|O|O|L" ∷
    utf8 "K.a.|K.o." ∷ utf8 "Kristo aurretik|Kristo ondoren" ∷ utf8 "a|o" ∷ utf8 "g|a" ∷
    utf8 "222222666666337777744555" ∷ utf8 "||goizald.|eguerd.|iluntz.|gaueko|goizeko|arrats.||" ∷
    utf8 "||goizaldeko|eguerdiko|iluntzeko|gaueko|goizeko|arratsaldeko||" ∷ utf8 "GMT||+||–||:" ∷
    utf8 "UTC|ordu unibertsal koordinatua" ∷ utf8 "Ngɔn|Amǒs|Awola|Enútɛn|Akábəga|Kírí / Ngəgógəle" ∷
    utf8 "ngo|ngb|ngl|ngn|ngt|ngs|ngz|ngm|nge|nga|ngad|ngab" ∷
    utf8 "ngɔn osú|ngɔn bɛ̌|ngɔn lála|ngɔn nyina|ngɔn tána|ngɔn saməna|ngɔn zamgbála|ngɔn mwom|ngɔn ebulú|ngɔn awóm|ngɔn awóm ai dziá|ngɔn awóm ai bɛ̌" ∷
    utf8 "o|b|l|n|t|s|z|m|e|a|d|b" ∷ utf8 "sɔ́n|mɔ́n|smb|sml|smn|fúl|sér" ∷
    utf8 "sɔ́ndɔ|mɔ́ndi|sɔ́ndɔ məlú mə́bɛ̌|sɔ́ndɔ məlú mə́lɛ́|sɔ́ndɔ məlú mə́nyi|fúladé|séradé" ∷
    utf8 "s|m|s|s|s|f|s" ∷ utf8 "oyk|ayk" ∷ utf8 "osúsúa Yésus kiri|ámvus Yésus Kirís" ∷ utf8 "kíkíríg|ngəgógəle" ∷
    utf8 "y/M G" ∷ utf8 "E، y/M/d G" ∷ utf8 "y/M/d GGGGG" ∷ utf8 "H:mm:ss (z)" ∷ utf8 "HH:mm (Z)" ∷
    utf8 "\u{633}HH v" ∷ utf8 "E M/d" ∷ utf8 "E d LLL" ∷ utf8 "E d LLLL" ∷ utf8 "d LLLL" ∷ utf8 "d LLL" ∷
    utf8 "E y/M/d" ∷ utf8 "1 \u{633}\u{627}\u{639}\u{62a} 0" ∷
    utf8 "\u{645}\u{627}\u{647}|\u{631}\u{648}\u{632}|\u{633}\u{627}\u{639}\u{62a}|\u{62f}\u{642}\u{6cc}\u{642}\u{647}|\u{62b}\u{627}\u{646}\u{6cc}\u{647}|\u{642}.\u{638}/\u{628}.\u{638}" ∷
    utf8 "\u{698}\u{627}\u{646}\u{648}\u{6cc}\u{647}|\u{641}\u{648}\u{631}\u{6cc}\u{647}|\u{645}\u{627}\u{631}\u{633}|\u{622}\u{648}\u{631}\u{6cc}\u{644}|\u{645}\u{647}|\u{698}\u{648}\u{626}\u{646}|\u{698}\u{648}\u{626}\u{6cc}\u{647}|\u{627}\u{648}\u{62a}|\u{633}\u{67e}\u{62a}\u{627}\u{645}\u{628}\u{631}|\u{627}\u{6a9}\u{62a}\u{628}\u{631}|\u{646}\u{648}\u{627}\u{645}\u{628}\u{631}|\u{62f}\u{633}\u{627}\u{645}\u{628}\u{631}" ∷
    utf8 "\u{698}\u{627}\u{646}\u{648}\u{6cc}\u{647}ٔ|\u{641}\u{648}\u{631}\u{6cc}\u{647}ٔ|\u{645}\u{627}\u{631}\u{633}|\u{622}\u{648}\u{631}\u{6cc}\u{644}|\u{645}\u{647}ٔ|\u{698}\u{648}\u{626}\u{646}|\u{698}\u{648}\u{626}\u{6cc}\u{647}ٔ|\u{627}\u{648}\u{62a}|\u{633}\u{67e}\u{62a}\u{627}\u{645}\u{628}\u{631}|\u{627}\u{6a9}\u{62a}\u{628}\u{631}|\u{646}\u{648}\u{627}\u{645}\u{628}\u{631}|\u{62f}\u{633}\u{627}\u{645}\u{628}\u{631}" ∷
    utf8 "\u{698}|\u{641}|\u{645}|\u{622}|\u{645}|\u{698}|\u{698}|\u{627}|\u{633}|\u{627}|\u{646}|\u{62f}" ∷
    utf8 "\u{6cc}\u{6a9}\u{634}\u{646}\u{628}\u{647}|\u{62f}\u{648}\u{634}\u{646}\u{628}\u{647}|\u{633}\u{647}\u{200c}\u{634}\u{646}\u{628}\u{647}|\u{686}\u{647}\u{627}\u{631}\u{634}\u{646}\u{628}\u{647}|\u{67e}\u{646}\u{62c}\u{634}\u{646}\u{628}\u{647}|\u{62c}\u{645}\u{639}\u{647}|\u{634}\u{646}\u{628}\u{647}" ∷
    utf8 "\u{6cc}|\u{62f}|\u{633}|\u{686}|\u{67e}|\u{62c}|\u{634}" ∷ utf8 "\u{642}.\u{645}.|\u{645}." ∷
    utf8 "\u{642}\u{628}\u{644} \u{627}\u{632} \u{645}\u{6cc}\u{644}\u{627}\u{62f}|\u{645}\u{6cc}\u{644}\u{627}\u{62f}\u{6cc}" ∷
    utf8 "\u{642}|\u{645}" ∷ utf8 "\u{642}.\u{638}.|\u{628}.\u{638}." ∷
    utf8 "\u{642}\u{628}\u{644}\u{200c}\u{627}\u{632}\u{638}\u{647}\u{631}|\u{628}\u{639}\u{62f}\u{627}\u{632}\u{638}\u{647}\u{631}" ∷
    utf8 "\u{642}|\u{628}" ∷ utf8 "922266666666377777755555" ∷
    utf8 "||\u{628}\u{627}\u{645}\u{62f}\u{627}\u{62f}|\u{638}\u{647}\u{631}||\u{634}\u{628}|\u{635}\u{628}\u{62d}|\u{639}\u{635}\u{631}||\u{646}\u{6cc}\u{645}\u{647}\u{200c}\u{634}\u{628}" ∷
    utf8 "||\u{628}\u{627}\u{645}\u{62f}\u{627}\u{62f}|\u{628}\u{639}\u{62f}\u{627}\u{632}\u{638}\u{647}\u{631}||\u{634}\u{628}|\u{635}\u{628}\u{62d}|\u{639}\u{635}\u{631}||\u{646}\u{6cc}\u{645}\u{647}\u{200c}\u{634}\u{628}" ∷
    utf8 "| \u{6af}\u{631}\u{6cc}\u{646}\u{648}\u{6cc}\u{686}|\u{200e}+||\u{200e}−||:" ∷
    utf8 "UTC|\u{632}\u{645}\u{627}\u{646} \u{647}\u{645}\u{627}\u{647}\u{646}\u{6af} \u{62c}\u{647}\u{627}\u{646}\u{6cc}" ∷
    utf8 "Lewru|Ñalnde|Waktu|Hoƴom|Majaango|Sahnga" ∷ utf8 "sii|col|mbo|see|duu|kor|mor|juk|slt|yar|jol|bow" ∷
    utf8 "siilo|colte|mbooy|seeɗto|duujal|korse|morso|juko|siilto|yarkomaa|jolal|bowte" ∷
    utf8 "s|c|m|s|d|k|m|j|s|y|j|b" ∷ utf8 "dew|aaɓ|maw|nje|naa|mwd|hbi" ∷
    utf8 "dewo|aaɓnde|mawbaare|njeslaare|naasaande|mawnde|hoore-biir" ∷ utf8 "d|a|m|n|n|m|h" ∷ utf8 "H-I|C-I" ∷
    utf8 "Hade Iisa|Caggal Iisa" ∷ utf8 "subaka|kikiiɗe" ∷ utf8 "E H.mm" ∷ utf8 "E H.mm.ss" ∷ utf8 "M.y G" ∷
    utf8 "E d.M.y G" ∷ utf8 "d.M.y G" ∷ utf8 "M.d.y G" ∷ utf8 "H.mm.ss zzzz" ∷ utf8 "H.mm.ss z" ∷ utf8 "H.mm.ss" ∷
    utf8 "H.mm" ∷ utf8 "H.mm.ss v" ∷
    []

unfoldable pub texts_12 : List Text
texts_12 =
    utf8 "H.mm v" ∷ utf8 "E d.M." ∷ utf8 "ccc d.M." ∷ utf8 "ccc d. MMMM" ∷ utf8 "m.ss" ∷ utf8 "cccc d. MMMM y" ∷
    utf8 "L.y" ∷ utf8 "1 'klo' 0" ∷ utf8 "kuukausi|päivä|tunti|minuutti|sekunti|vuorokaudenaika" ∷
    utf8 "tammi|helmi|maalis|huhti|touko|kesä|heinä|elo|syys|loka|marras|joulu" ∷
    utf8 "tammikuuta|helmikuuta|maaliskuuta|huhtikuuta|toukokuuta|kesäkuuta|heinäkuuta|elokuuta|syyskuuta|lokakuuta|marraskuuta|joulukuuta" ∷
    utf8 "T|H|M|H|T|K|H|E|S|L|M|J" ∷
    utf8 "tammikuu|helmikuu|maaliskuu|huhtikuu|toukokuu|kesäkuu|heinäkuu|elokuu|syyskuu|lokakuu|marraskuu|joulukuu" ∷
    utf8 "su|ma|ti|ke|to|pe|la" ∷
    utf8 "sunnuntaina|maanantaina|tiistaina|keskiviikkona|torstaina|perjantaina|lauantaina" ∷ utf8 "S|M|T|K|T|P|L" ∷
    utf8 "sunnuntai|maanantai|tiistai|keskiviikko|torstai|perjantai|lauantai" ∷ utf8 "eKr.|jKr." ∷
    utf8 "ennen Kristuksen syntymää|jälkeen Kristuksen syntymän" ∷ utf8 "eKr|jKr" ∷ utf8 "ap.|ip." ∷
    utf8 "5555522222663333334444451" ∷ utf8 "|keskip.|aamulla|iltap.|illalla|yöllä|aamup.|||" ∷
    utf8 "|keskipäivällä|aamulla|iltapäivällä|illalla|yöllä|aamupäivällä|||" ∷
    utf8 "|kp.|aamulla|ip.|illalla|yöllä|ap.|||" ∷ utf8 "UTC||+||-||." ∷ utf8 "UTC|UTC-yleisaika" ∷
    utf8 "1 'nang' 0" ∷ utf8 "buwan|araw|oras|minuto|segundo|AM/PM" ∷
    utf8 "Ene|Peb|Mar|Abr|May|Hun|Hul|Ago|Set|Okt|Nob|Dis" ∷
    utf8 "Enero|Pebrero|Marso|Abril|Mayo|Hunyo|Hulyo|Agosto|Setyembre|Oktubre|Nobyembre|Disyembre" ∷
    utf8 "E|P|M|A|M|Hun|Hul|Ago|Set|Okt|Nob|Dis" ∷ utf8 "Lin|Lun|Mar|Miy|Huw|Biy|Sab" ∷
    utf8 "Linggo|Lunes|Martes|Miyerkules|Huwebes|Biyernes|Sabado" ∷ utf8 "2222226666663333445555551" ∷
    utf8 "|tanghaling-tapat|ng umaga|ng hapon|ng gabi|ng gabi|madaling-araw|||" ∷ utf8 "dd.MM.y G, E" ∷ utf8 "LL" ∷
    utf8 "E dd.MM" ∷ utf8 "E dd.MM.y" ∷ utf8 "mánaður|dagur|tími|minuttur|sekund|AM/PM" ∷
    utf8 "jan.|feb.|mar.|apr.|mai|jun.|jul.|aug.|sep.|okt.|nov.|des." ∷
    utf8 "januar|februar|mars|apríl|mai|juni|juli|august|september|oktober|november|desember" ∷
    utf8 "jan|feb|mar|apr|mai|jun|jul|aug|sep|okt|nov|des" ∷ utf8 "sun.|mán.|týs.|mik.|hós.|frí.|ley." ∷
    utf8 "sunnudagur|mánadagur|týsdagur|mikudagur|hósdagur|fríggjadagur|leygardagur" ∷ utf8 "S|M|T|M|H|F|L" ∷
    utf8 "sun|mán|týs|mik|hós|frí|ley" ∷ utf8 "fyri Krist|eftir Krist" ∷ utf8 "UTC|Samskipað heimstíð" ∷ utf8 "E" ∷
    utf8 "E dd/MM/y GGGGG" ∷ utf8 "dd/MM/y GGGGG" ∷ utf8 "HH 'h'" ∷ utf8 "HH 'h' v" ∷ utf8 "1 'à' 0" ∷
    utf8 "mois|jour|heure|minute|seconde|cadran" ∷
    utf8 "janv.|févr.|mars|avr.|mai|juin|juil.|août|sept.|oct.|nov.|déc." ∷
    utf8 "janvier|février|mars|avril|mai|juin|juillet|août|septembre|octobre|novembre|décembre" ∷
    utf8 "dim.|lun.|mar.|mer.|jeu.|ven.|sam." ∷ utf8 "dimanche|lundi|mardi|mercredi|jeudi|vendredi|samedi" ∷
    utf8 "D|L|M|M|J|V|S" ∷ utf8 "av. J.-C.|ap. J.-C." ∷ utf8 "avant Jésus-Christ|après Jésus-Christ" ∷
    utf8 "5555222222223333334444441" ∷ utf8 "|midi|matin|après-midi|soir|matin||||" ∷
    utf8 "|midi|du matin|de l’après-midi|du soir|du matin||||" ∷ utf8 "|midi|mat.|ap.m.|soir|matin||||" ∷
    utf8 "UTC||+||−||:" ∷ utf8 "UTC|temps universel coordonné" ∷ utf8 "d 'di' MMMM" ∷
    utf8 "EEEE d 'di' MMMM 'dal' y" ∷ utf8 "d 'di' MMMM 'dal' y" ∷ utf8 "LLLL 'dal' y" ∷
    utf8 "mês|dì|ore|minût|secont|toc dal dì" ∷ utf8 "Zen|Fev|Mar|Avr|Mai|Jug|Lui|Avo|Set|Otu|Nov|Dic" ∷
    utf8 "Zenâr|Fevrâr|Març|Avrîl|Mai|Jugn|Lui|Avost|Setembar|Otubar|Novembar|Dicembar" ∷
    utf8 "Z|F|M|A|M|J|L|A|S|O|N|D" ∷ utf8 "dom|lun|mar|mie|joi|vin|sab" ∷
    utf8 "domenie|lunis|martars|miercus|joibe|vinars|sabide" ∷ utf8 "pdC|ddC" ∷ utf8 "a.|p." ∷ utf8 "E d-M" ∷
    utf8 "d-M" ∷ utf8 "dd-MM-yy" ∷ utf8 "M-y" ∷ utf8 "E d-M-y" ∷ utf8 "Moanne|dei|oere|Minút|Sekonde|AM/PM" ∷
    utf8 "Jan|Feb|Mrt|Apr|Mai|Jun|Jul|Aug|Sep|Okt|Nov|Des" ∷
    utf8 "Jannewaris|Febrewaris|Maart|April|Maaie|Juny|July|Augustus|Septimber|Oktober|Novimber|Desimber" ∷
    utf8 "si|mo|ti|wo|to|fr|so" ∷ utf8 "snein|moandei|tiisdei|woansdei|tongersdei|freed|sneon" ∷ utf8 "f.Kr.|n.Kr." ∷
    utf8 "Foar Kristus|nei Kristus" ∷ utf8 "f.K.|n.K." ∷ utf8 "1 'ag' 0" ∷
    utf8 "mí|lá|uair|nóiméad|soicind|a.m./p.m." ∷
    utf8 "Ean|Feabh|Márta|Aib|Beal|Meith|Iúil|Lún|MFómh|DFómh|Samh|Noll" ∷
    utf8 "Eanáir|Feabhra|Márta|Aibreán|Bealtaine|Meitheamh|Iúil|Lúnasa|Meán Fómhair|Deireadh Fómhair|Samhain|Nollaig" ∷
    utf8 "E|F|M|A|B|M|I|L|M|D|S|N" ∷ utf8 "Domh|Luan|Máirt|Céad|Déar|Aoine|Sath" ∷
    utf8 "Dé Domhnaigh|Dé Luain|Dé Máirt|Dé Céadaoin|Déardaoin|Dé hAoine|Dé Sathairn" ∷ utf8 "D|L|M|C|D|A|S" ∷
    utf8 "RC|AD" ∷ utf8 "Roimh Chríost|Anno Domini" ∷ utf8 "r.n.|i.n." ∷ utf8 "MAG||+||-||:" ∷
    utf8 "UTC|Am Uilíoch Lárnach" ∷
    utf8 "Aharabata|Oflɔ|Otsokrikri|Abɛibe|Agbiɛnaa|Otukwajaŋ|Maawɛ|Manyawale|Gbo|Antɔŋ|Alemle|Afuabe" ∷
    utf8 "Hɔgbaa|Ju|Jufɔ|Shɔ|Soo|Sohaa|Hɔɔ" ∷ utf8 "LEEBI|SHWANE" ∷ utf8 "hB" ∷ utf8 "h:mmB" ∷ utf8 "h:mm:ssB" ∷
    utf8 "E, hB" ∷ utf8 "E, h:mmB" ∷ utf8 "E, h:mm:ssB" ∷ utf8 "E, ha" ∷ utf8 "E, h:mma" ∷ utf8 "HH'u' v" ∷
    []

unfoldable pub texts_13 : List Text
texts_13 =
    utf8 "d'mh' MMMM" ∷ utf8 "ha" ∷ utf8 "h:mma" ∷ utf8 "h:mma v" ∷ utf8 "ha v" ∷ utf8 "EEEE, d'mh' MMMM y" ∷
    utf8 "d'mh' MMMM y" ∷ utf8 "L/y" ∷ utf8 "LL/y" ∷ utf8 "d'mh' MMM y" ∷ utf8 "1 'aig' 0" ∷
    utf8 "mìos|latha|uair a thìde|mionaid|diog|m/f" ∷
    utf8 "Faoi|Gearr|Màrt|Gibl|Cèit|Ògmh|Iuch|Lùna|Sult|Dàmh|Samh|Dùbh" ∷
    utf8 "dhen Fhaoilleach|dhen Ghearran|dhen Mhàrt|dhen Ghiblean|dhen Chèitean|dhen Ògmhios|dhen Iuchar|dhen Lùnastal|dhen t-Sultain|dhen Dàmhair|dhen t-Samhain|dhen Dùbhlachd" ∷
    utf8 "F|G|M|G|C|Ò|I|L|S|D|S|D" ∷
    utf8 "Am Faoilleach|An Gearran|Am Màrt|An Giblean|An Cèitean|An t-Ògmhios|An t-Iuchar|An Lùnastal|An t-Sultain|An Dàmhair|An t-Samhain|An Dùbhlachd" ∷
    utf8 "DiD|DiL|DiM|DiC|Dia|Dih|DiS" ∷
    utf8 "DiDòmhnaich|DiLuain|DiMàirt|DiCiadain|DiarDaoin|DihAoine|DiSathairne" ∷ utf8 "D|L|M|C|A|H|S" ∷
    utf8 "Ro Chrìosta|An dèidh Chrìosta" ∷ utf8 "R|A" ∷ utf8 "m|f" ∷ utf8 "UTC|Àm Uile-choitcheann Co-òrdanaichte" ∷
    utf8 "E, h:mm B" ∷ utf8 "E, h:mm:ss B" ∷ utf8 "MMM 'de' y G" ∷ utf8 "E, d 'de' MMM 'de' y G" ∷
    utf8 "d 'de' MMM 'de' y G" ∷ utf8 "E, d 'de' MMM" ∷ utf8 "d 'de' MMM" ∷ utf8 "d 'de' MMM 'de' y" ∷
    utf8 "MMM 'de' y" ∷ utf8 "E, d 'de' MMM 'de' y" ∷ utf8 "mes|día|hora|minuto|segundo|a.m./p.m." ∷
    utf8 "xan.|feb.|mar.|abr.|maio|xuño|xul.|ago.|set.|out.|nov.|dec." ∷
    utf8 "xaneiro|febreiro|marzo|abril|maio|xuño|xullo|agosto|setembro|outubro|novembro|decembro" ∷
    utf8 "x.|f.|m.|a.|m.|x.|x.|a.|s.|o.|n.|d." ∷ utf8 "X|F|M|A|M|X|X|A|S|O|N|D" ∷
    utf8 "dom.|luns|mar.|mér.|xov.|ven.|sáb." ∷ utf8 "domingo|luns|martes|mércores|xoves|venres|sábado" ∷
    utf8 "d.|l.|m.|m.|x.|v.|s." ∷ utf8 "a.C.|d.C." ∷ utf8 "antes de Cristo|despois de Cristo" ∷ utf8 "a.m.|p.m." ∷
    utf8 "222222666666344444444555" ∷ utf8 "||da madrugada|do mediodía|da tarde|da noite|da mañá|||" ∷
    utf8 "UTC|hora universal coordinada" ∷ utf8 "d.MM." ∷ utf8 "Monet|Tag|Schtund|Minuute|Sekunde|Tageshälfti" ∷
    utf8 "Januar|Februar|März|April|Mai|Juni|Juli|Auguscht|Septämber|Oktoober|Novämber|Dezämber" ∷
    utf8 "Su.|Mä.|Zi.|Mi.|Du.|Fr.|Sa." ∷ utf8 "Sunntig|Määntig|Ziischtig|Mittwuch|Dunschtig|Friitig|Samschtig" ∷
    utf8 "vorm.|nam." ∷ utf8 "am Vormittag|am Namittag" ∷ utf8 "555552222222337777444444" ∷
    utf8 "||am Morge|zmittag|zaabig|znacht||am Namittag||" ∷ utf8 "MMM, G y" ∷ utf8 "E, d MMM, G y" ∷
    utf8 "d MMM, G y" ∷ utf8 "hh:mm:ss a zzzz" ∷ utf8 "hh:mm:ss a z" ∷
    utf8 "મહિનો|દિવસ|કલાક|મિનિટ|સેકંડ|AM/PM" ∷
    utf8 "જાન્યુ|ફેબ્રુ|માર્ચ|એપ્રિલ|મે|જૂન|જુલાઈ|ઑગસ્ટ|સપ્ટે|ઑક્ટો|નવે|ડિસે" ∷
    utf8 "જાન્યુઆરી|ફેબ્રુઆરી|માર્ચ|એપ્રિલ|મે|જૂન|જુલાઈ|ઑગસ્ટ|સપ્ટેમ્બર|ઑક્ટોબર|નવેમ્બર|ડિસેમ્બર" ∷
    utf8 "જા|ફે|મા|એ|મે|જૂ|જુ|ઑ|સ|ઑ|ન|ડિ" ∷
    utf8 "રવિ|સોમ|મંગળ|બુધ|ગુરુ|શુક્ર|શનિ" ∷
    utf8 "રવિવાર|સોમવાર|મંગળવાર|બુધવાર|ગુરુવાર|શુક્રવાર|શનિવાર" ∷
    utf8 "ર|સો|મં|બુ|ગુ|શુ|શ" ∷ utf8 "ઈ.સ.પૂર્વે|ઈ.સ." ∷
    utf8 "ઈસવીસન પૂર્વે|ઇસવીસન" ∷ utf8 "ઇ સ પુ|ઇસ" ∷
    utf8 "555522222222333344445555" ∷
    utf8 "||સવારે|બપોરે|સાંજે|રાત્રે||||" ∷
    utf8 "UTC|સંકલિત યુનિવર્સલ સમય" ∷
    utf8 "Omotienyi|Rituko|Ensa|Edakika|Esekendi|Mambia gose Morogoba" ∷
    utf8 "Can|Feb|Mac|Apr|Mei|Jun|Cul|Agt|Sep|Okt|Nob|Dis" ∷
    utf8 "Chanuari|Feburari|Machi|Apiriri|Mei|Juni|Chulai|Agosti|Septemba|Okitoba|Nobemba|Disemba" ∷
    utf8 "C|F|M|A|M|J|C|A|S|O|N|D" ∷ utf8 "Cpr|Ctt|Cmn|Cmt|Ars|Icm|Est" ∷
    utf8 "Chumapiri|Chumatato|Chumaine|Chumatano|Aramisi|Ichuma|Esabato" ∷ utf8 "C|C|C|C|A|I|E" ∷ utf8 "YA|YK" ∷
    utf8 "Yeso ataiborwa|Yeso kaiboirwe" ∷ utf8 "Ma|Mo" ∷ utf8 "Mambia|Mog" ∷
    utf8 "J-guer|T-arree|Mayrnt|Avrril|Boaldyn|M-souree|J-souree|Luanistyn|M-fouyir|J-fouyir|M-Houney|M-Nollick" ∷
    utf8 "Jerrey-geuree|Toshiaght-arree|Mayrnt|Averil|Boaldyn|Mean-souree|Jerrey-souree|Luanistyn|Mean-fouyir|Jerrey-fouyir|Mee Houney|Mee ny Nollick" ∷
    utf8 "Jed|Jel|Jem|Jerc|Jerd|Jeh|Jes" ∷ utf8 "Jedoonee|Jelhein|Jemayrt|Jercean|Jerdein|Jeheiney|Jesarn" ∷
    utf8 "EEEE d MMMM, y" ∷ utf8 "wata|kwana|awa|minti|daƙiƙa|SF/YM" ∷
    utf8 "Jan|Fab|Mar|Afi|May|Yun|Yul|Agu|Sat|Okt|Nuw|Dis" ∷
    utf8 "Janairu|Faburairu|Maris|Afirilu|Mayu|Yuni|Yuli|Agusta|Satumba|Oktoba|Nuwamba|Disamba" ∷
    utf8 "J|F|M|A|M|Y|Y|A|S|O|N|D" ∷ utf8 "Lah|Lit|Tal|Lar|Alh|Jum|Asa" ∷
    utf8 "Lahadi|Litinin|Talata|Laraba|Alhamis|Jummaʼa|Asabar" ∷ utf8 "L|L|T|L|A|J|A" ∷ utf8 "K.H|BHAI" ∷
    utf8 "Kafin haihuwar annab|Bayan haihuwar annab" ∷ utf8 "SF|YM" ∷ utf8 "Safiya|Yamma" ∷
    utf8 "UTC|Hadewa Lokaci na Duniya" ∷ utf8 "d/r/yy" ∷
    utf8 "Ian.|Pep.|Mal.|ʻAp.|Mei|Iun.|Iul.|ʻAu.|Kep.|ʻOk.|Now.|Kek." ∷
    utf8 "Ianuali|Pepeluali|Malaki|ʻApelila|Mei|Iune|Iulai|ʻAukake|Kepakemapa|ʻOkakopa|Nowemapa|Kekemapa" ∷
    utf8 "LP|P1|P2|P3|P4|P5|P6" ∷ utf8 "Lāpule|Poʻakahi|Poʻalua|Poʻakolu|Poʻahā|Poʻalima|Poʻaono" ∷
    utf8 "E \u{5d4}-d" ∷ utf8 "E, d \u{5d1}MMM y G" ∷ utf8 "d \u{5d1}MMM y G" ∷ utf8 "E, d \u{5d1}MMM" ∷
    utf8 "d \u{5d1}MMMM" ∷ utf8 "d \u{5d1}MMM" ∷ utf8 "\u{200f}h a" ∷ utf8 "EEEE, d \u{5d1}MMMM y" ∷
    utf8 "d \u{5d1}MMMM y" ∷ utf8 "d \u{5d1}MMM y" ∷ utf8 "E, d \u{5d1}MMM y" ∷
    utf8 "1 \u{5d1}\u{5e9}\u{5e2}\u{5d4} 0" ∷
    utf8 "\u{5d7}\u{5d5}\u{5d3}\u{5e9}|\u{5d9}\u{5d5}\u{5dd}|\u{5e9}\u{5e2}\u{5d4}|\u{5d3}\u{5e7}\u{5d4}|\u{5e9}\u{5e0}\u{5d9}\u{5d9}\u{5d4}|\u{5dc}\u{5e4}\u{5e0}\u{5d4}\u{5f4}\u{5e6}/\u{5d0}\u{5d7}\u{5d4}\u{5f4}\u{5e6}" ∷
    []

unfoldable pub texts_14 : List Text
texts_14 =
    utf8 "\u{5d9}\u{5e0}\u{5d5}\u{5f3}|\u{5e4}\u{5d1}\u{5e8}\u{5f3}|\u{5de}\u{5e8}\u{5e5}|\u{5d0}\u{5e4}\u{5e8}\u{5f3}|\u{5de}\u{5d0}\u{5d9}|\u{5d9}\u{5d5}\u{5e0}\u{5d9}|\u{5d9}\u{5d5}\u{5dc}\u{5d9}|\u{5d0}\u{5d5}\u{5d2}\u{5f3}|\u{5e1}\u{5e4}\u{5d8}\u{5f3}|\u{5d0}\u{5d5}\u{5e7}\u{5f3}|\u{5e0}\u{5d5}\u{5d1}\u{5f3}|\u{5d3}\u{5e6}\u{5de}\u{5f3}" ∷
    utf8 "\u{5d9}\u{5e0}\u{5d5}\u{5d0}\u{5e8}|\u{5e4}\u{5d1}\u{5e8}\u{5d5}\u{5d0}\u{5e8}|\u{5de}\u{5e8}\u{5e5}|\u{5d0}\u{5e4}\u{5e8}\u{5d9}\u{5dc}|\u{5de}\u{5d0}\u{5d9}|\u{5d9}\u{5d5}\u{5e0}\u{5d9}|\u{5d9}\u{5d5}\u{5dc}\u{5d9}|\u{5d0}\u{5d5}\u{5d2}\u{5d5}\u{5e1}\u{5d8}|\u{5e1}\u{5e4}\u{5d8}\u{5de}\u{5d1}\u{5e8}|\u{5d0}\u{5d5}\u{5e7}\u{5d8}\u{5d5}\u{5d1}\u{5e8}|\u{5e0}\u{5d5}\u{5d1}\u{5de}\u{5d1}\u{5e8}|\u{5d3}\u{5e6}\u{5de}\u{5d1}\u{5e8}" ∷
    utf8 "\u{5d9}\u{5d5}\u{5dd} \u{5d0}\u{5f3}|\u{5d9}\u{5d5}\u{5dd} \u{5d1}\u{5f3}|\u{5d9}\u{5d5}\u{5dd} \u{5d2}\u{5f3}|\u{5d9}\u{5d5}\u{5dd} \u{5d3}\u{5f3}|\u{5d9}\u{5d5}\u{5dd} \u{5d4}\u{5f3}|\u{5d9}\u{5d5}\u{5dd} \u{5d5}\u{5f3}|\u{5e9}\u{5d1}\u{5ea}" ∷
    utf8 "\u{5d9}\u{5d5}\u{5dd} \u{5e8}\u{5d0}\u{5e9}\u{5d5}\u{5df}|\u{5d9}\u{5d5}\u{5dd} \u{5e9}\u{5e0}\u{5d9}|\u{5d9}\u{5d5}\u{5dd} \u{5e9}\u{5dc}\u{5d9}\u{5e9}\u{5d9}|\u{5d9}\u{5d5}\u{5dd} \u{5e8}\u{5d1}\u{5d9}\u{5e2}\u{5d9}|\u{5d9}\u{5d5}\u{5dd} \u{5d7}\u{5de}\u{5d9}\u{5e9}\u{5d9}|\u{5d9}\u{5d5}\u{5dd} \u{5e9}\u{5d9}\u{5e9}\u{5d9}|\u{5d9}\u{5d5}\u{5dd} \u{5e9}\u{5d1}\u{5ea}" ∷
    utf8 "\u{5d0}\u{5f3}|\u{5d1}\u{5f3}|\u{5d2}\u{5f3}|\u{5d3}\u{5f3}|\u{5d4}\u{5f3}|\u{5d5}\u{5f3}|\u{5e9}\u{5f3}" ∷
    utf8 "\u{5dc}\u{5e4}\u{5e0}\u{5d4}\u{5f4}\u{5e1}|\u{5dc}\u{5e1}\u{5e4}\u{5d9}\u{5e8}\u{5d4}" ∷
    utf8 "\u{5dc}\u{5e4}\u{5e0}\u{5d9} \u{5d4}\u{5e1}\u{5e4}\u{5d9}\u{5e8}\u{5d4}|\u{5dc}\u{5e1}\u{5e4}\u{5d9}\u{5e8}\u{5d4}" ∷
    utf8 "\u{5dc}\u{5e4}\u{5e0}\u{5d9}|\u{5d0}\u{5d7}\u{5e8}\u{5d9}\u{5d9}" ∷ utf8 "555999222222333377444455" ∷
    utf8 "||\u{5d1}\u{5d5}\u{5e7}\u{5e8}|\u{5e6}\u{5d4}\u{5e8}\u{5d9}\u{5d9}\u{5dd}|\u{5e2}\u{5e8}\u{5d1}|\u{5dc}\u{5d9}\u{5dc}\u{5d4}||\u{5d0}\u{5d7}\u{5e8} \u{5d4}\u{5e6}\u{5d4}\u{5e8}\u{5d9}\u{5d9}\u{5dd}||\u{5dc}\u{5e4}\u{5e0}\u{5d5}\u{5ea} \u{5d1}\u{5d5}\u{5e7}\u{5e8}" ∷
    utf8 "||\u{5d1}\u{5d1}\u{5d5}\u{5e7}\u{5e8}|\u{5d1}\u{5e6}\u{5d4}\u{5e8}\u{5d9}\u{5d9}\u{5dd}|\u{5d1}\u{5e2}\u{5e8}\u{5d1}|\u{5d1}\u{5dc}\u{5d9}\u{5dc}\u{5d4}||\u{5d0}\u{5d7}\u{5e8} \u{5d4}\u{5e6}\u{5d4}\u{5e8}\u{5d9}\u{5d9}\u{5dd}||\u{5dc}\u{5e4}\u{5e0}\u{5d5}\u{5ea} \u{5d1}\u{5d5}\u{5e7}\u{5e8}" ∷
    utf8 "||\u{5d1}\u{5d1}\u{5d5}\u{5e7}\u{5e8}|\u{5d1}\u{5e6}\u{5d4}\u{5e8}\u{5d9}\u{5d9}\u{5dd}|\u{5d1}\u{5e2}\u{5e8}\u{5d1}|\u{5d1}\u{5dc}\u{5d9}\u{5dc}\u{5d4}||\u{5d0}\u{5d7}\u{5d4}\u{5f4}\u{5e6}||\u{5dc}\u{5e4}\u{5e0}\u{5d5}\u{5ea} \u{5d1}\u{5d5}\u{5e7}\u{5e8}" ∷
    utf8 "GMT|\u{200e}|\u{200e}+||-|\u{200e}|:" ∷
    utf8 "UTC|\u{5d6}\u{5de}\u{5df} \u{5d0}\u{5d5}\u{5e0}\u{5d9}\u{5d1}\u{5e8}\u{5e1}\u{5dc}\u{5d9} \u{5de}\u{5ea}\u{5d5}\u{5d0}\u{5dd}" ∷
    utf8 "MMM G y" ∷ utf8 "GGGGG d/M/y" ∷ utf8 "1 को 0 बजे" ∷
    utf8 "माह|दिन|घंटा|मिनट|सेकंड|पूर्वाह्न/अपराह्न" ∷
    utf8 "जन॰|फ़र॰|मार्च|अप्रैल|मई|जून|जुल॰|अग॰|सित॰|अक्टू॰|नव॰|दिस॰" ∷
    utf8 "जनवरी|फ़रवरी|मार्च|अप्रैल|मई|जून|जुलाई|अगस्त|सितंबर|अक्टूबर|नवंबर|दिसंबर" ∷
    utf8 "ज|फ़|मा|अ|म|जू|जु|अ|सि|अ|न|दि" ∷
    utf8 "रवि|सोम|मंगल|बुध|गुरु|शुक्र|शनि" ∷
    utf8 "रविवार|सोमवार|मंगलवार|बुधवार|गुरुवार|शुक्रवार|शनिवार" ∷
    utf8 "र|सो|मं|बु|गु|शु|श" ∷ utf8 "ईसा-पूर्व|ईस्वी" ∷
    utf8 "ईसा-पूर्व|ईसवी सन" ∷ utf8 "||सुबह|दोपहर|शाम|रात||||" ∷
    utf8 "UTC|समन्वित वैश्विक समय" ∷ utf8 "MM. y. G" ∷ utf8 "E, dd. MM. y., G" ∷
    utf8 "LLL y. G" ∷ utf8 "d. M. y. GGGGG" ∷ utf8 "L." ∷ utf8 "E, dd. MM." ∷ utf8 "dd. MM." ∷ utf8 "dd. MM. y." ∷
    utf8 "MM. y." ∷ utf8 "E, dd. MM. y." ∷ utf8 "LLL y." ∷ utf8 "mjesec|dan|sat|minuta|sekunda|AM/PM" ∷
    utf8 "sij|velj|ožu|tra|svi|lip|srp|kol|ruj|lis|stu|pro" ∷
    utf8 "siječnja|veljače|ožujka|travnja|svibnja|lipnja|srpnja|kolovoza|rujna|listopada|studenoga|prosinca" ∷
    utf8 "1.|2.|3.|4.|5.|6.|7.|8.|9.|10.|11.|12." ∷
    utf8 "siječanj|veljača|ožujak|travanj|svibanj|lipanj|srpanj|kolovoz|rujan|listopad|studeni|prosinac" ∷
    utf8 "pr. Kr.|po. Kr." ∷ utf8 "prije Krista|poslije Krista" ∷ utf8 "pr.n.e.|AD" ∷
    utf8 "|podne|ujutro|popodne|navečer|noću||||" ∷ utf8 "|podne|ujutro|poslije podne|navečer|noću||||" ∷
    utf8 "GMT||+|| -||:" ∷ utf8 "UTC|koordinirano svjetsko vrijeme" ∷ utf8 "h 'hodź'. B" ∷ utf8 "E, h 'hodź'. B" ∷
    utf8 "E, H:mm 'hodź'." ∷ utf8 "H 'hodź'." ∷ utf8 "H:mm 'hodź'." ∷ utf8 "H 'hodź'. v" ∷ utf8 "h 'hodź'. a v" ∷
    utf8 "1 'w' 0" ∷ utf8 "měsac|dźeń|hodźina|minuta|sekunda|połojca dnja" ∷
    utf8 "jan.|feb.|měr.|apr.|mej.|jun.|jul.|awg.|sep.|okt.|now.|dec." ∷
    utf8 "januara|februara|měrca|apryla|meje|junija|julija|awgusta|septembra|oktobra|nowembra|decembra" ∷
    utf8 "jan|feb|měr|apr|mej|jun|jul|awg|sep|okt|now|dec" ∷
    utf8 "januar|februar|měrc|apryl|meja|junij|julij|awgust|september|oktober|nowember|december" ∷
    utf8 "nje|pón|wut|srj|štw|pja|sob" ∷ utf8 "njedźela|póndźela|wutora|srjeda|štwórtk|pjatk|sobota" ∷
    utf8 "n|p|w|s|š|p|s" ∷ utf8 "př.Chr.n.|po Chr.n." ∷ utf8 "před Chrystowym narodźenjom|po Chrystowym narodźenju" ∷
    utf8 "dop.|pop." ∷ utf8 "dopołdnja|popołdnju" ∷ utf8 "UTC|koordinowany swětowy čas" ∷ utf8 "d., E" ∷
    utf8 "G y." ∷ utf8 "G y. MM." ∷ utf8 "G y. MM. dd., E" ∷ utf8 "G y. MMM" ∷ utf8 "G y. MMM d., E" ∷
    utf8 "G y. MMM d." ∷ utf8 "GGGGG y. MM. dd." ∷ utf8 "M. d., E" ∷ utf8 "MMM d., E" ∷ utf8 "MMMM d." ∷
    utf8 "MMM d." ∷ utf8 "M. d." ∷ utf8 "y. MMMM d., EEEE" ∷ utf8 "y. MMMM d." ∷ utf8 "y. MMM d." ∷
    utf8 "y. MM. dd." ∷ utf8 "y. M." ∷ utf8 "y. MM. dd., E" ∷ utf8 "y. MMM" ∷ utf8 "y. MMM d., E" ∷ utf8 "y. MMMM" ∷
    utf8 "hónap|nap|óra|perc|másodperc|napszak" ∷
    utf8 "jan.|febr.|márc.|ápr.|máj.|jún.|júl.|aug.|szept.|okt.|nov.|dec." ∷
    utf8 "január|február|március|április|május|június|július|augusztus|szeptember|október|november|december" ∷
    utf8 "J|F|M|Á|M|J|J|A|Sz|O|N|D" ∷ utf8 "V|H|K|Sze|Cs|P|Szo" ∷
    utf8 "vasárnap|hétfő|kedd|szerda|csütörtök|péntek|szombat" ∷ utf8 "V|H|K|Sz|Cs|P|Sz" ∷ utf8 "i. e.|i. sz." ∷
    utf8 "Krisztus előtt|időszámításunk szerint" ∷ utf8 "ie.|isz." ∷ utf8 "de.|du." ∷
    utf8 "5555992226663333334445551" ∷ utf8 "|dél|reggel|du.|este|éjjel|de.|||hajnal" ∷
    utf8 "|dél|reggel|délután|este|éjjel|délelőtt|||hajnal" ∷ utf8 "|dél|reggel|délután|este|éjjel|de.|||hajnal" ∷
    utf8 "UTC|koordinált világidő" ∷ utf8 "B h-ին" ∷ utf8 "B h:mm-ին" ∷ utf8 "E B h-ին" ∷ utf8 "E B h:mm-ին" ∷
    utf8 "G y թ." ∷ utf8 "G dd.MM.y, E" ∷ utf8 "G y թ. MMM" ∷ utf8 "G y թ. MMM d, E" ∷ utf8 "G y թ․ MMM d" ∷
    utf8 "GGGGG dd.MM.y" ∷
    []

unfoldable pub texts_15 : List Text
texts_15 =
    utf8 "ժ․ HH v" ∷ utf8 "y թ. MMMM d, EEEE" ∷ utf8 "dd MMMM, y թ." ∷ utf8 "dd MMM, y թ." ∷ utf8 "d.MM.y, E" ∷
    utf8 "y թ. LLL" ∷ utf8 "y թ. MMM d, E" ∷ utf8 "y թ․ LLLL" ∷ utf8 "d MMM, y թ." ∷
    utf8 "ամիս|օր|ժամ|րոպե|վայրկյան|ԿԱ/ԿՀ" ∷ utf8 "հնվ|փտվ|մրտ|ապր|մյս|հնս|հլս|օգս|սեպ|հոկ|նոյ|դեկ" ∷
    utf8 "հունվարի|փետրվարի|մարտի|ապրիլի|մայիսի|հունիսի|հուլիսի|օգոստոսի|սեպտեմբերի|հոկտեմբերի|նոյեմբերի|դեկտեմբերի" ∷
    utf8 "Հ|Փ|Մ|Ա|Մ|Հ|Հ|Օ|Ս|Հ|Ն|Դ" ∷
    utf8 "հունվար|փետրվար|մարտ|ապրիլ|մայիս|հունիս|հուլիս|օգոստոս|սեպտեմբեր|հոկտեմբեր|նոյեմբեր|դեկտեմբեր" ∷
    utf8 "կիր|երկ|երք|չրք|հնգ|ուր|շբթ" ∷ utf8 "կիրակի|երկուշաբթի|երեքշաբթի|չորեքշաբթի|հինգշաբթի|ուրբաթ|շաբաթ" ∷
    utf8 "Կ|Ե|Ե|Չ|Հ|Ո|Շ" ∷ utf8 "մ.թ.ա.|մ.թ." ∷ utf8 "Քրիստոսից առաջ|Քրիստոսից հետո" ∷ utf8 "ա|հ" ∷
    utf8 "|կեսօր|առավոտյան|ցերեկը|երեկոյան|գիշերը||||" ∷ utf8 "|կեսօրին|առավոտյան|ցերեկվա|երեկոյան|գիշերվա||||" ∷
    utf8 "|կօ․|առվ|ցրկ|երկ|գշր||||" ∷ utf8 "UTC|Համաշխարհային կոորդինացված ժամանակ" ∷ utf8 "E dd-MM-y G" ∷
    utf8 "dd-MM-y G" ∷ utf8 "E dd-MM" ∷ utf8 "h v" ∷ utf8 "EEEE 'le' d 'de' MMMM y" ∷ utf8 "d 'de' MMMM y" ∷
    utf8 "E dd-MM-y" ∷ utf8 "1 'a' 0" ∷ utf8 "mense|die|hora|minuta|secunda|AM/PM" ∷
    utf8 "jan|feb|mar|apr|mai|jun|jul|aug|sep|oct|nov|dec" ∷
    utf8 "januario|februario|martio|april|maio|junio|julio|augusto|septembre|octobre|novembre|decembre" ∷
    utf8 "dom|lun|mar|mer|jov|ven|sab" ∷ utf8 "dominica|lunedi|martedi|mercuridi|jovedi|venerdi|sabbato" ∷
    utf8 "d|l|m|m|j|v|s" ∷ utf8 "a.Chr.|p.Chr." ∷ utf8 "ante Christo|post Christo" ∷
    utf8 "UTC|Universal Tempore Coordinate" ∷ utf8 "h.mm.ss. a v" ∷ utf8 "EEEE, dd MMMM y" ∷ utf8 "1 'pukul' 0" ∷
    utf8 "bulan|hari|jam|menit|detik|AM/PM" ∷ utf8 "Jan|Feb|Mar|Apr|Mei|Jun|Jul|Agu|Sep|Okt|Nov|Des" ∷
    utf8 "Januari|Februari|Maret|April|Mei|Juni|Juli|Agustus|September|Oktober|November|Desember" ∷
    utf8 "Min|Sen|Sel|Rab|Kam|Jum|Sab" ∷ utf8 "Minggu|Senin|Selasa|Rabu|Kamis|Jumat|Sabtu" ∷ utf8 "M|S|S|R|K|J|S" ∷
    utf8 "SM|M" ∷ utf8 "Sebelum Masehi|Masehi" ∷ utf8 "2222222222333334445555551" ∷
    utf8 "|tengah hari|pagi|siang|sore|malam||||" ∷ utf8 "UTC|Waktu Universal Terkoordinasi" ∷ utf8 "H 'h'." ∷
    utf8 "HH 'h'. 'de' v" ∷ utf8 "EEEE d MMM y" ∷ utf8 "1 'ye' 0" ∷ utf8 "mensu|die|hor|minute|seconde|midídie" ∷
    utf8 "jan.|febr.|mar.|apr.|may|jun.|julí|aug.|sept.|oct.|nov.|dec." ∷
    utf8 "januar|februar|marte|april|may|junio|julí|august|septembre|octobre|novembre|decembre" ∷
    utf8 "sol.|lun.|mar.|mer.|jov.|ven.|sat." ∷ utf8 "soledí|lunedí|mardí|mercurdí|jovedí|venerdí|saturdí" ∷
    utf8 "S|L|M|M|J|V|S" ∷ utf8 "a.C.|e.C." ∷ utf8 "ante Crist|era Cristan" ∷ utf8 "ante midí|pos midí" ∷
    utf8 "TMG||+||-||:" ∷ utf8 "1 'na' 0" ∷ utf8 "Ọnwa|Ụbọchị|Elekere|Nkeji|Second|N’ụtụtụ/N’abalị" ∷
    utf8 "Jen|Feb|Maa|Epr|Mee|Juu|Jul|Ọgọ|Sep|Ọkt|Nov|Dis" ∷
    utf8 "Jenụwarị|Febrụwarị|Maachị|Epreel|Mee|Jun|Julaị|Ọgọọst|Septemba|Ọktoba|Novemba|Disemba" ∷
    utf8 "J|F|M|E|M|J|J|Ọ|S|Ọ|N|D" ∷ utf8 "Sọn|Mọn|Tiu|Wen|Tọọ|Fraị|Sat" ∷
    utf8 "Sọndee|Mọnde|Tiuzdee|Wenezdee|Tọọzdee|Fraịdee|Satọdee" ∷ utf8 "Tupu Kraist|Afọ Kraịst" ∷
    utf8 "N’ụtụtụ|N’abalị" ∷ utf8 "N’ụtụtụ|N’abali" ∷ utf8 "UTC|Nhazi Oge Ụwa Niile" ∷ utf8 "dꑍ, E" ∷
    utf8 "G y MMM dꑍ,E" ∷ utf8 "G y MMM dꑍ" ∷ utf8 "v HH:mm:ss" ∷ utf8 "MMꆪ-ddꑍ，E" ∷ utf8 "MMMM dꑍ,E" ∷
    utf8 "MMMM dꑍ" ∷ utf8 "MMM dꑍ" ∷ utf8 "MMꆪ-ddꑍ" ∷ utf8 "ah:mm" ∷ utf8 "ah:mm:ss" ∷ utf8 "v ah:mm:ss" ∷
    utf8 "dꑍ" ∷ utf8 "yꈎMꆪdꑍ" ∷ utf8 "y MMM dꑍ,E" ∷ utf8 "ꃅꆪ|ꃅꑍ|ꄮꈉꂷ|ꄮꈉꃏ|ꄮꈉꇅ|ꎸꄑ/ꁯꋒ" ∷
    utf8 "ꋍꆪ|ꑍꆪ|ꌕꆪ|ꇖꆪ|ꉬꆪ|ꃘꆪ|ꏃꆪ|ꉆꆪ|ꈬꆪ|ꊰꆪ|ꊯꊪꆪ|ꊰꑋꆪ" ∷ utf8 "ꑬꆏ|ꆏꋍ|ꆏꑍ|ꆏꌕ|ꆏꇖ|ꆏꉬ|ꆏꃘ" ∷ utf8 "ꑬꆏꑍ|ꆏꊂꋍ|ꆏꊂꑍ|ꆏꊂꌕ|ꆏꊂꇖ|ꆏꊂꉬ|ꆏꊂꃘ" ∷
    utf8 "ꆏ|ꋍ|ꑍ|ꌕ|ꇖ|ꉬ|ꃘ" ∷ utf8 "ꃅꋊꂿ|ꃅꋊꊂ" ∷ utf8 "ꎸꄑ|ꁯꋒ" ∷ utf8 "ꋧꃅꎕꏦꄮꈉ||+||-||:" ∷ utf8 "v – HH:mm:ss" ∷
    utf8 "v – HH:mm" ∷ utf8 "HH'klst'. v" ∷ utf8 "M. y" ∷ utf8 "mánuður|dagur|klukkustund|mínúta|sekúnda|f.h./e.h." ∷
    utf8 "jan.|feb.|mar.|apr.|maí|jún.|júl.|ágú.|sep.|okt.|nóv.|des." ∷
    utf8 "janúar|febrúar|mars|apríl|maí|júní|júlí|ágúst|september|október|nóvember|desember" ∷
    utf8 "J|F|M|A|M|J|J|Á|S|O|N|D" ∷ utf8 "sun.|mán.|þri.|mið.|fim.|fös.|lau." ∷
    utf8 "sunnudagur|mánudagur|þriðjudagur|miðvikudagur|fimmtudagur|föstudagur|laugardagur" ∷ utf8 "S|M|Þ|M|F|F|L" ∷
    utf8 "fyrir Krist|eftir Krist" ∷ utf8 "f.k.|e.k." ∷ utf8 "f.h.|e.h." ∷ utf8 "f.|e." ∷
    utf8 "|hádegi|að morgni|síðdegis|að kvöldi|að nóttu||||" ∷ utf8 "|h.|mrg.|sd.|kv.|n.||||" ∷
    []

unfoldable pub texts_16 : List Text
texts_16 =
    utf8 "UTC|Samræmdur alþjóðlegur tími" ∷ utf8 "E dd/MM/y G" ∷ utf8 "'h'HH v" ∷ utf8 "1 'alle' 'ore' 0" ∷
    utf8 "mese|giorno|ora|minuto|secondo|AM/PM" ∷ utf8 "gen|feb|mar|apr|mag|giu|lug|ago|set|ott|nov|dic" ∷
    utf8 "gennaio|febbraio|marzo|aprile|maggio|giugno|luglio|agosto|settembre|ottobre|novembre|dicembre" ∷
    utf8 "G|F|M|A|M|G|L|A|S|O|N|D" ∷ utf8 "dom|lun|mar|mer|gio|ven|sab" ∷
    utf8 "domenica|lunedì|martedì|mercoledì|giovedì|venerdì|sabato" ∷ utf8 "D|L|M|M|G|V|S" ∷
    utf8 "avanti Cristo|dopo Cristo" ∷ utf8 "m.|p." ∷
    utf8 "|mezzogiorno|di mattina|di pomeriggio|di sera|di notte||||" ∷
    utf8 "|mezzogiorno|di mattina|del pomeriggio|di sera|di notte||||" ∷ utf8 "UTC|Tempo coordinato universale" ∷
    utf8 "BK時" ∷ utf8 "BK:mm" ∷ utf8 "BK:mm:ss" ∷ utf8 "BK時 (E)" ∷ utf8 "BK:mm (E)" ∷ utf8 "BK:mm:ss (E)" ∷
    utf8 "d日EEEE" ∷ utf8 "H:mm (E)" ∷ utf8 "H:mm:ss (E)" ∷ utf8 "d日(E)" ∷ utf8 "aK時 (E)" ∷ utf8 "aK:mm (E)" ∷
    utf8 "aK:mm:ss (E)" ∷ utf8 "Gy年" ∷ utf8 "Gy/M" ∷ utf8 "Gy/M/d(E)" ∷ utf8 "Gy年M月" ∷ utf8 "Gy年M月d日EEEE" ∷
    utf8 "Gy年M月d日(E)" ∷ utf8 "Gy年M月d日" ∷ utf8 "Gy/M/d" ∷ utf8 "H時" ∷ utf8 "H時mm分ss秒 zzzz" ∷ utf8 "H時 v" ∷ utf8 "M月" ∷
    utf8 "M/dEEEE" ∷ utf8 "M/d(E)" ∷ utf8 "M月d日EEEE" ∷ utf8 "M月d日(E)" ∷ utf8 "M月d日" ∷ utf8 "aK時" ∷ utf8 "aK:mm" ∷
    utf8 "aK:mm:ss" ∷ utf8 "aK:mm:ss v" ∷ utf8 "aK:mm v" ∷ utf8 "aK時 v" ∷ utf8 "d日" ∷ utf8 "y年" ∷ utf8 "y/M/dEEEE" ∷
    utf8 "y/M/d(E)" ∷ utf8 "y/MM" ∷ utf8 "y年M月" ∷ utf8 "y年M月d日EEEE" ∷ utf8 "y年M月d日(E)" ∷ utf8 "y年M月d日" ∷
    utf8 "y/MM/dd" ∷ utf8 "月|日|時|分|秒|午前/午後" ∷ utf8 "1月|2月|3月|4月|5月|6月|7月|8月|9月|10月|11月|12月" ∷ utf8 "日|月|火|水|木|金|土" ∷
    utf8 "日曜日|月曜日|火曜日|水曜日|木曜日|金曜日|土曜日" ∷ utf8 "紀元前|西暦" ∷ utf8 "午前|午後" ∷ utf8 "9999222222223333444555591" ∷
    utf8 "|正午|朝|昼|夕方|夜||||夜中" ∷ utf8 "UTC|協定世界時" ∷ utf8 "EEEE, y MMMM dd" ∷ utf8 "M.d.y" ∷
    utf8 "Nduŋmbi Saŋ|Pɛsaŋ Pɛ́pá|Pɛsaŋ Pɛ́tát|Pɛsaŋ Pɛ́nɛ́kwa|Pɛsaŋ Pataa|Pɛsaŋ Pɛ́nɛ́ntúkú|Pɛsaŋ Saambá|Pɛsaŋ Pɛ́nɛ́fɔm|Pɛsaŋ Pɛ́nɛ́pfúꞋú|Pɛsaŋ Nɛgɛ́m|Pɛsaŋ Ntsɔ̌pmɔ́|Pɛsaŋ Ntsɔ̌ppá" ∷
    utf8 "Sɔ́ndi|Mɔ́ndi|Ápta Mɔ́ndi|Wɛ́nɛsɛdɛ|Tɔ́sɛdɛ|Fɛlâyɛdɛ|Sásidɛ" ∷
    utf8 "Sɔ́|Mɔ́|ÁM|Wɛ́|Tɔ́|Fɛ|Sá" ∷
    utf8 "tsɛttsɛt mɛŋguꞌ mi ɛ́ lɛɛnɛ Kɛlísɛtɔ gɔ ńɔ́|tsɛttsɛt mɛŋguꞌ mi ɛ́ fúnɛ Kɛlísɛtɔ tɔ́ mɔ́" ∷
    utf8 "mbaꞌmbaꞌ|ŋka mbɔ́t nji" ∷ utf8 "Mori|Mfiri|Saa|Dakyika|Sekunde|Mfiri o siku" ∷
    utf8 "Jan|Feb|Mac|Apr|Mei|Jun|Jul|Ago|Sep|Okt|Nov|Des" ∷
    utf8 "Januari|Februari|Machi|Aprilyi|Mei|Junyi|Julyai|Agusti|Septemba|Oktoba|Novemba|Desemba" ∷
    utf8 "Jpi|Jtt|Jnn|Jtn|Alh|Iju|Jmo" ∷ utf8 "Jumapilyi|Jumatatuu|Jumanne|Jumatanu|Alhamisi|Ijumaa|Jumamosi" ∷
    utf8 "Kabla ya Kristu|Baada ya Kristu" ∷ utf8 "utuko|kyiukonyi" ∷ utf8 "1 'ing' 0" ∷
    utf8 "sasi|dino|jam|menit|detik|isuk/wengi" ∷ utf8 "Jan|Feb|Mar|Apr|Mei|Jun|Jul|Agt|Sep|Okt|Nov|Des" ∷
    utf8 "Ahad|Sen|Sel|Rab|Kam|Jum|Sab" ∷ utf8 "Ahad|Senin|Selasa|Rabu|Kamis|Jumat|Sabtu" ∷ utf8 "A|S|S|R|K|J|S" ∷
    utf8 "Sakdurunge Masehi|Masehi" ∷ utf8 "Isuk|Wengi" ∷ utf8 "UTC|Wektu Universal Kakoordhinasi" ∷
    utf8 "MMM. y G" ∷ utf8 "E, d MMM. y G" ∷ utf8 "d MMM. y G" ∷ utf8 "EEEE, dd MMMM, y" ∷ utf8 "d MMM. y" ∷
    utf8 "MMM. y" ∷ utf8 "E, d MMM. y" ∷ utf8 "MMMM, y" ∷ utf8 "თვე|დღე|საათი|წუთი|წამი|დღის ნახევარი" ∷
    utf8 "იან|თებ|მარ|აპრ|მაი|ივნ|ივლ|აგვ|სექ|ოქტ|ნოე|დეკ" ∷
    utf8 "იანვარი|თებერვალი|მარტი|აპრილი|მაისი|ივნისი|ივლისი|აგვისტო|სექტემბერი|ოქტომბერი|ნოემბერი|დეკემბერი" ∷
    utf8 "ი|თ|მ|ა|მ|ი|ი|ა|ს|ო|ნ|დ" ∷ utf8 "კვი|ორშ|სამ|ოთხ|ხუთ|პარ|შაბ" ∷
    utf8 "კვირა|ორშაბათი|სამშაბათი|ოთხშაბათი|ხუთშაბათი|პარასკევი|შაბათი" ∷ utf8 "კ|ო|ს|ო|ხ|პ|შ" ∷
    utf8 "ძვ. წ.|ახ. წ." ∷ utf8 "ძველი წელთაღრიცხვით|ახალი წელთაღრიცხვით" ∷ utf8 "5555522222223333334445551" ∷
    utf8 "|შუადღ.|დილ.|ნაშუადღ.|საღ.|ღამ.||||" ∷ utf8 "|შუადღეს|დილით|ნაშუადღევს|საღამოს|ღამით||||" ∷
    utf8 "UTC|მსოფლიო კოორდინირებული დრო" ∷ utf8 "Aggur|Ass|Tamert|Tamrect|Tasint|n tufat / n tmeddit" ∷
    utf8 "Yen|Fur|Meɣ|Yeb|May|Yun|Yul|Ɣuc|Cte|Tub|Nun|Duǧ" ∷
    utf8 "Yennayer|Fuṛar|Meɣres|Yebrir|Mayyu|Yunyu|Yulyu|Ɣuct|Ctembeṛ|Tubeṛ|Nunembeṛ|Duǧembeṛ" ∷
    utf8 "Y|F|M|Y|M|Y|Y|Ɣ|C|T|N|D" ∷ utf8 "Acer|Arim|Aram|Ahad|Amhad|Sem|Sed" ∷
    []

unfoldable pub texts_17 : List Text
texts_17 =
    utf8 "C|R|R|H|M|S|S" ∷ utf8 "snd. T.Ɛ|sld. T.Ɛ" ∷ utf8 "send talalit n Ɛisa|seld talalit n Ɛisa" ∷
    utf8 "n tufat|n tmeddit" ∷ utf8 "Mwai|Mũthenya|Saa|Ndatĩka|sekondi|Ĩyakwakya/Ĩyawĩoo" ∷
    utf8 "Mbe|Kel|Ktũ|Kan|Ktn|Tha|Moo|Nya|Knd|Ĩku|Ĩkm|Ĩkl" ∷
    utf8 "Mwai wa mbee|Mwai wa kelĩ|Mwai wa katatũ|Mwai wa kana|Mwai wa katano|Mwai wa thanthatũ|Mwai wa muonza|Mwai wa nyaanya|Mwai wa kenda|Mwai wa ĩkumi|Mwai wa ĩkumi na ĩmwe|Mwai wa ĩkumi na ilĩ" ∷
    utf8 "M|K|K|K|K|T|M|N|K|Ĩ|Ĩ|Ĩ" ∷ utf8 "Wky|Wkw|Wkl|Wtũ|Wkn|Wtn|Wth" ∷
    utf8 "Wa kyumwa|Wa kwambĩlĩlya|Wa kelĩ|Wa katatũ|Wa kana|Wa katano|Wa thanthatũ" ∷ utf8 "Y|W|E|A|A|A|A" ∷
    utf8 "MY|IY" ∷ utf8 "Mbee wa Yesũ|Ĩtina wa Yesũ" ∷ utf8 "Ĩyakwakya|Ĩyawĩoo" ∷
    utf8 "Mwedi|Lihiku|Saa|Dakika|Sekunde|Muhi/Chilo" ∷
    utf8 "Mwedi Ntandi|Mwedi wa Pili|Mwedi wa Tatu|Mwedi wa Nchechi|Mwedi wa Nnyano|Mwedi wa Nnyano na Umo|Mwedi wa Nnyano na Mivili|Mwedi wa Nnyano na Mitatu|Mwedi wa Nnyano na Nchechi|Mwedi wa Nnyano na Nnyano|Mwedi wa Nnyano na Nnyano na U|Mwedi wa Nnyano na Nnyano na M" ∷
    utf8 "Ll2|Ll3|Ll4|Ll5|Ll6|Ll7|Ll1" ∷
    utf8 "Liduva lyapili|Liduva lyatatu|Liduva lyanchechi|Liduva lyannyano|Liduva lyannyano na linji|Liduva lyannyano na mavili|Liduva litandi" ∷
    utf8 "2|3|4|5|6|7|1" ∷ utf8 "AY|NY" ∷ utf8 "Akanapawa Yesu|Nankuida Yesu" ∷ utf8 "Muhi|Chilo" ∷ utf8 "E, dd/MM" ∷
    utf8 "E, d 'di' MMMM" ∷ utf8 "EEEE, d 'di' MMMM 'di' y" ∷ utf8 "d 'di' MMMM 'di' y" ∷ utf8 "E, dd/MM/y" ∷
    utf8 "LLLL 'di' y" ∷ utf8 "mes|dia|ora|minutu|sigundu|am/pm" ∷
    utf8 "Jan|Feb|Mar|Abr|Mai|Jun|Jul|Ago|Set|Otu|Nuv|Diz" ∷
    utf8 "Janeru|Febreru|Marsu|Abril|Maiu|Junhu|Julhu|Agostu|Setenbru|Otubru|Nuvenbru|Dizenbru" ∷
    utf8 "dum|sig|ter|kua|kin|ses|sab" ∷
    utf8 "dumingu|sigunda-fera|tersa-fera|kuarta-fera|kinta-fera|sesta-fera|sábadu" ∷ utf8 "D|S|T|K|K|S|S" ∷
    utf8 "AK|DK" ∷ utf8 "antis di Kristu|dispos di Kristu" ∷ utf8 "UTC|Ora Universal Kordenadu" ∷ utf8 "MMM, y G" ∷
    utf8 "E, d 'ne' MMM, y G" ∷ utf8 "d 'ne' MMM, y G" ∷ utf8 "E, d 'ne' MMM" ∷ utf8 "E, d 'ne' MMMM" ∷
    utf8 "d 'ne' MMMM" ∷ utf8 "d 'ne' MMM" ∷ utf8 "EEEE, d 'ne' MMMM, y" ∷ utf8 "d 'ne' MMMM, y" ∷
    utf8 "d 'ne' MMM, y" ∷ utf8 "MMM, y" ∷ utf8 "E, d 'ne' MMM, y" ∷ utf8 "E, d 'ne' MMMM, y" ∷
    utf8 "kysã|kurã|óra|mĩnũtu|segũno|AM/PM" ∷
    utf8 "1Ky.|2Ky.|3Ky.|4Ky.|5Ky.|6Ky.|7Ky.|8Ky.|9Ky.|10Ky.|11Ky.|12Ky." ∷
    utf8 "1-Kysã|2-Kysã|3-Kysã|4-Kysã|5-Kysã|6-Kysã|7-Kysã|8-Kysã|9-Kysã|10-Kysã|11-Kysã|12-Kysã" ∷
    utf8 "1K|2K|3K|4K|5K|6K|7K|8K|9K|10K|11K|12K" ∷ utf8 "num.|pir.|rég.|tẽg.|vẽn.|pén.|sav." ∷
    utf8 "numĩggu|pir-kurã-há|régre-kurã-há|tẽgtũ-kurã-há|vẽnhkãgra-kurã-há|pénkar-kurã-há|savnu" ∷
    utf8 "N.|P.|R.|T.|V.|P.|S." ∷ utf8 "C.j.|C.kk." ∷ utf8 "Cristo jo|Cristo kar kỹ" ∷
    utf8 "5555552222223333333444441" ∷ utf8 "|kurã-kuju|kusãg ki|rãkãnh kỹ|kuty kỹ|kurã ge||||" ∷
    utf8 "UTC|Ga-kar Óra Vẽnh-krén-ja" ∷ utf8 "Handu|Jaari|Guuru|Miniti|Miti|Adduha wala Aluula" ∷
    utf8 "Alh|Ati|Ata|Ala|Alm|Alj|Ass" ∷ utf8 "Alhadi|Atini|Atalata|Alarba|Alhamiisa|Aljuma|Assabdu" ∷
    utf8 "H|T|T|L|L|L|S" ∷ utf8 "Isaa jine|Isaa jamanoo" ∷ utf8 "Adduha|Aluula" ∷
    utf8 "Mweri|Mũthenya|Ithaa|Ndagĩka|Sekunde|Dayperiod" ∷ utf8 "JEN|WKR|WGT|WKN|WTN|WTD|WMJ|WNN|WKD|WIK|WMW|DIT" ∷
    utf8 "Njenuarĩ|Mwere wa kerĩ|Mwere wa gatatũ|Mwere wa kana|Mwere wa gatano|Mwere wa gatandatũ|Mwere wa mũgwanja|Mwere wa kanana|Mwere wa kenda|Mwere wa ikũmi|Mwere wa ikũmi na ũmwe|Ndithemba" ∷
    utf8 "J|K|G|K|G|G|M|K|K|I|I|D" ∷ utf8 "KMA|NTT|NMN|NMT|ART|NMA|NMM" ∷
    utf8 "Kiumia|Njumatatũ|Njumaine|Njumatana|Aramithi|Njumaa|Njumamothi" ∷ utf8 "K|N|N|N|A|N|N" ∷
    utf8 "Kiroko|Hwaĩ-inĩ" ∷ utf8 "E, B h:mm" ∷ utf8 "E, B h:mm:ss" ∷ utf8 "G y 'ж'." ∷ utf8 "MM-GGGGG y" ∷
    utf8 "E, MM-dd-G y" ∷ utf8 "G y 'ж'. MMM" ∷ utf8 "G y 'ж'. d MMM, E" ∷ utf8 "G y 'ж'. d MMM" ∷
    utf8 "dd-MM-GGGGG y" ∷ utf8 "h a, v" ∷ utf8 "y 'ж'. d MMMM, EEEE" ∷ utf8 "y 'ж'. d MMMM" ∷ utf8 "y 'ж'. dd MMM" ∷
    utf8 "y 'ж'. MMM" ∷ utf8 "y 'ж'. d MMM, E" ∷ utf8 "y 'ж'. MMMM" ∷ utf8 "y 'ж'. d MMM" ∷
    utf8 "ай|күн|сағат|минут|секунд|АМ/РМ" ∷ utf8 "қаң.|ақп.|нау.|сәу.|мам.|мау.|шіл.|там.|қыр.|қаз.|қар.|жел." ∷
    utf8 "қаңтар|ақпан|наурыз|сәуір|мамыр|маусым|шілде|тамыз|қыркүйек|қазан|қараша|желтоқсан" ∷
    utf8 "Қ|А|Н|С|М|М|Ш|Т|Қ|Қ|Қ|Ж" ∷
    utf8 "Қаңтар|Ақпан|Наурыз|Сәуір|Мамыр|Маусым|Шілде|Тамыз|Қыркүйек|Қазан|Қараша|Желтоқсан" ∷
    utf8 "жс|дс|сс|ср|бс|жм|сб" ∷ utf8 "жексенбі|дүйсенбі|сейсенбі|сәрсенбі|бейсенбі|жұма|сенбі" ∷
    utf8 "Ж|Д|С|С|Б|Ж|С" ∷ utf8 "б.з.д.|б.з." ∷ utf8 "Біздің заманымызға дейін|біздің заманымыз" ∷
    utf8 "5555552222223333334445551" ∷ utf8 "|түскі|таңғы|түстен кейінгі|кешкі|түнгі||||" ∷
    utf8 "UTC|Дүниежүзілік үйлестірілген уақыт" ∷ utf8 "dd/MM y" ∷ utf8 "MM y" ∷ utf8 "E dd/MM y" ∷
    utf8 "pamba|wanja|mbiyɔ mɛndoŋgɔ|Nyɔlɔmbɔŋgɔ|Mɔnɔ ŋgbanja|Nyaŋgwɛ ŋgbanja|kuŋgwɛ|fɛ|njapi|nyukul|M11|ɓulɓusɛ" ∷
    utf8 "sɔndi|lundi|mardi|mɛrkɛrɛdi|yedi|vaŋdɛrɛdi|mɔnɔ sɔndi" ∷ utf8 "so|lu|ma|mɛ|ye|va|ms" ∷
    utf8 "jan|febr|mar|apr|maj|jun|jul|aug|sept|okt|nov|dec" ∷
    utf8 "januaarip|februaarip|marsip|apriilip|maajip|juunip|juulip|aggustip|septembarip|oktobarip|novembarip|decembarip" ∷
    utf8 "januaari|februaari|marsi|apriili|maaji|juuni|juuli|aggusti|septembari|oktobari|novembari|decembari" ∷
    utf8 "sap|ata|mar|pin|sis|tal|arf" ∷
    utf8 "sapaat|ataasinngorneq|marlunngorneq|pingasunngorneq|sisamanngorneq|tallimanngorneq|arfininngorneq" ∷
    utf8 "Arawet|Betut|Sait|Minitit|Sekondit|BE/KE" ∷ utf8 "Mul|Ngat|Taa|Iwo|Mam|Paa|Nge|Roo|Bur|Epe|Kpt|Kpa" ∷
    utf8 "Mulgul|Ng’atyaato|Kiptaamo|Iwootkuut|Mamuut|Paagi|Ng’eiyeet|Rooptui|Bureet|Epeeso|Kipsuunde ne taai|Kipsuunde nebo aeng’" ∷
    []

unfoldable pub texts_18 : List Text
texts_18 =
    utf8 "M|N|T|I|M|P|N|R|B|E|K|K" ∷ utf8 "Kts|Kot|Koo|Kos|Koa|Kom|Kol" ∷
    utf8 "Kotisap|Kotaai|Koaeng’|Kosomok|Koang’wan|Komuut|Kolo" ∷ utf8 "T|T|O|S|A|M|L" ∷ utf8 "AM|KO" ∷
    utf8 "Amait kesich Jesu|Kokakesich Jesu" ∷ utf8 "krn|koosk" ∷ utf8 "karoon|kooskoliny" ∷ utf8 "ម៉HH v" ∷
    utf8 "1 នៅ\u{200b}ម៉ោង 0" ∷
    utf8 "ខែ|ថ្ងៃ|ម៉ោង|នាទី|វិនាទី|ព្រឹក/ល្ងាច" ∷
    utf8 "មករា|កុម្ភៈ|មីនា|មេសា|ឧសភា|មិថុនា|កក្កដា|សីហា|កញ្ញា|តុលា|វិច្ឆិកា|ធ្នូ" ∷
    utf8 "ម|ក|ម|ម|ឧ|ម|ក|ស|ក|ត|វ|ធ" ∷
    utf8 "អាទិត្យ|ចន្ទ|អង្គារ|ពុធ|ព្រហ|សុក្រ|សៅរ៍" ∷
    utf8 "អាទិត្យ|ច័ន្ទ|អង្គារ|ពុធ|ព្រហស្បតិ៍|សុក្រ|សៅរ៍" ∷
    utf8 "អ|ច|អ|ព|ព|ស|ស" ∷
    utf8 "អាទិត្យ|ចន្ទ|អង្គារ|ពុធ|ព្រហស្បតិ៍|សុក្រ|សៅរ៍" ∷
    utf8 "មុន គ.ស.|គ.ស." ∷
    utf8 "មុន\u{200b}គ្រិស្តសករាជ|គ្រិស្តសករាជ" ∷
    utf8 "|ថ្ងៃត្រង់|នៅពេល\u{200b}ព្រឹក|នៅពេលរសៀល|នៅពេល\u{200b}ល្ងាច|នៅពេល\u{200b}យប់||||" ∷
    utf8 "ម៉ោង\u{200b}សកល ||+||-||:" ∷
    utf8 "UTC|ម៉ោងសកលដែលមានការសម្រួល" ∷ utf8 "d/M, E" ∷
    utf8 "MMM d,y" ∷ utf8 "1 ರಂದು 0 ಸಮಯಕ್ಕೆ" ∷
    utf8 "ತಿಂಗಳು|ದಿನ|ಗಂಟೆ|ನಿಮಿಷ|ಸೆಕೆಂಡ್|AM/PM" ∷
    utf8 "ಜನ|ಫೆಬ್ರ|ಮಾರ್ಚ್|ಏಪ್ರಿ|ಮೇ|ಜೂನ್|ಜುಲೈ|ಆಗ|ಸೆಪ್ಟೆಂ|ಅಕ್ಟೋ|ನವೆಂ|ಡಿಸೆಂ" ∷
    utf8 "ಜನವರಿ|ಫೆಬ್ರವರಿ|ಮಾರ್ಚ್|ಏಪ್ರಿಲ್|ಮೇ|ಜೂನ್|ಜುಲೈ|ಆಗಸ್ಟ್|ಸೆಪ್ಟೆಂಬರ್|ಅಕ್ಟೋಬರ್|ನವೆಂಬರ್|ಡಿಸೆಂಬರ್" ∷
    utf8 "ಜ|ಫೆ|ಮಾ|ಏ|ಮೇ|ಜೂ|ಜು|ಆ|ಸೆ|ಅ|ನ|ಡಿ" ∷
    utf8 "ಭಾನು|ಸೋಮ|ಮಂಗಳ|ಬುಧ|ಗುರು|ಶುಕ್ರ|ಶನಿ" ∷
    utf8 "ಭಾನುವಾರ|ಸೋಮವಾರ|ಮಂಗಳವಾರ|ಬುಧವಾರ|ಗುರುವಾರ|ಶುಕ್ರವಾರ|ಶನಿವಾರ" ∷
    utf8 "ಭಾ|ಸೋ|ಮಂ|ಬು|ಗು|ಶು|ಶ" ∷
    utf8 "ಕ್ರಿ.ಪೂ|ಕ್ರಿ.ಶ" ∷
    utf8 "ಕ್ರಿಸ್ತ ಪೂರ್ವ|ಕ್ರಿಸ್ತ ಶಕ" ∷
    utf8 "555555222222333333444555" ∷
    utf8 "||ಬೆಳಗ್ಗೆ|ಮಧ್ಯಾಹ್ನ|ಸಂಜೆ|ರಾತ್ರಿ||||" ∷
    utf8 "UTC|ಸಂಘಟಿತ ಸಾರ್ವತ್ರಿಕ ಸಮಯ" ∷ utf8 "B h시" ∷ utf8 "(E) B h시" ∷
    utf8 "(E) B h:mm" ∷ utf8 "(E) B h:mm:ss" ∷ utf8 "d일 EEEE" ∷ utf8 "(E) HH:mm" ∷ utf8 "(E) HH:mm:ss" ∷
    utf8 "d일 (E)" ∷ utf8 "(E) a h" ∷ utf8 "(E) a h:mm" ∷ utf8 "(E) a h:mm:ss" ∷ utf8 "G y년" ∷ utf8 "G y/M/d (E)" ∷
    utf8 "G y년 MMM" ∷ utf8 "G y년 MMM d일 EEEE" ∷ utf8 "G y년 MMM d일 (E)" ∷ utf8 "G y년 MMM d일" ∷ utf8 "GGGGG y/M/d" ∷
    utf8 "H시" ∷ utf8 "H시 m분 s초" ∷ utf8 "H시 m분 s초 v" ∷ utf8 "H시 v" ∷ utf8 "M월" ∷ utf8 "M. d. EEEE" ∷
    utf8 "M. d. (E)" ∷ utf8 "MMM d일 EEEE" ∷ utf8 "MMM d일 (E)" ∷ utf8 "MMMM d일" ∷ utf8 "MMM d일" ∷
    utf8 "a h시 m분 s초 zzzz" ∷ utf8 "a h시 m분 s초 z" ∷ utf8 "a h시" ∷ utf8 "a h시 v" ∷ utf8 "d일" ∷ utf8 "y년" ∷
    utf8 "y년 MMMM d일 EEEE" ∷ utf8 "y년 MMMM d일" ∷ utf8 "y. M. d." ∷ utf8 "y. M. d. EEEE" ∷ utf8 "y. M. d. (E)" ∷
    utf8 "y년 MMM" ∷ utf8 "y년 MMM d일 EEEE" ∷ utf8 "y년 MMM d일 (E)" ∷ utf8 "y년 MMMM" ∷ utf8 "y년 MMM d일" ∷
    utf8 "yy. M. d." ∷ utf8 "월|일|시|분|초|오전/오후" ∷ utf8 "1월|2월|3월|4월|5월|6월|7월|8월|9월|10월|11월|12월" ∷
    utf8 "일|월|화|수|목|금|토" ∷ utf8 "일요일|월요일|화요일|수요일|목요일|금요일|토요일" ∷ utf8 "기원전|서기" ∷ utf8 "오전|오후" ∷
    utf8 "5552226666663333334445551" ∷ utf8 "|정오|아침|오후|저녁|밤|오전|||" ∷ utf8 "UTC|협정 세계시" ∷ utf8 "E, d-M-y G" ∷
    utf8 "d-M, E" ∷ utf8 "a h वाजतां v" ∷ utf8 "d-M-yy" ∷ utf8 "d-M-y, E" ∷ utf8 "d-MMM-y" ∷
    utf8 "1 0 वरांचेर" ∷
    utf8 "म्हयनो|दीस|वर|मिनीट|सेकंद|AM/PM" ∷
    utf8 "जाने|फेब्रु|मार्च|एप्री|मे|जून|जुल|ऑग|सप्टें|ऑक्टो|नोव्हें|डिसें" ∷
    utf8 "जानेवारी|फेब्रुवारी|मार्च|एप्रील|मे|जून|जुलय|ऑगस्ट|सप्टेंबर|ऑक्टोबर|नोव्हेंबर|डिसेंबर" ∷
    utf8 "जा|फे|मा|ए|मे|जू|जु|ऑ|स|ऑ|नो|डि" ∷
    utf8 "जाने|फेब्रु|मार्च|एप्री|मे|जून|जुल|ऑग|सप्टें|ऑक्टो|नोव्हें|डिसे" ∷
    utf8 "आयतार|सोमार|मंगळार|बुधवार|बिरेस्तार|शुक्रार|शेनवार" ∷
    utf8 "आ|सो|मं|बु|बि|शु|शे" ∷
    utf8 "आ|सो|मं|बु|ब|शु|शे" ∷
    utf8 "क्रिस्तपूर्व|क्रि.श." ∷
    utf8 "क्रिस्ता आदीं|क्रि.श." ∷
    utf8 "क्रि.आ.|क्रि.श." ∷ utf8 "सकाळीं|सांजे" ∷
    utf8 "a|PM" ∷ utf8 "||सकाळ|दनपार|सांज|रात||||" ∷
    utf8 "||सकाळीं|दनपारां|सांजे|राती||||" ∷
    utf8 "UTC|समन्वित वैश्विक वेळ" ∷
    utf8 "0 \u{67e}\u{66e}۪\u{679}\u{6be}\u{620} 1" ∷
    utf8 "\u{631}\u{620}\u{62a}\u{6be}|\u{62f}\u{6c4}\u{6c1}|\u{6af}\u{672}\u{646}\u{679}\u{6c1}ٕ|\u{645}ِ\u{646}َ\u{679}|\u{633}\u{620}\u{6a9}َ\u{646}\u{688}|\u{635}ُ\u{628}\u{62d}/\u{631}\u{627}\u{62a}\u{6be}" ∷
    utf8 "\u{62c}\u{646}\u{624}\u{631}\u{6cc}|\u{641}\u{631}\u{624}\u{631}\u{6cc}|\u{645}\u{627}\u{631}ٕ\u{686}|\u{627}\u{67e}\u{631}\u{6cc}\u{644}|\u{645}\u{626}\u{6cc}|\u{62c}\u{648}ٗ\u{646}|\u{62c}ُ\u{644}َ\u{6d2}|\u{627}\u{6af}\u{633}\u{62a}|\u{633}\u{62a}\u{645}\u{628}\u{631}|\u{627}\u{6a9}\u{62a}\u{648}ٗ\u{628}\u{631}|\u{646}\u{648}\u{645}\u{628}\u{631}|\u{62f}\u{633}\u{645}\u{628}\u{631}" ∷
    utf8 "\u{62c}\u{646}\u{624}\u{631}\u{6cc}|\u{641}\u{631}\u{624}\u{631}\u{6cc}|\u{645}\u{627}\u{631}ٕ\u{686}|\u{627}\u{67e}\u{631}\u{6cc}\u{644}|\u{645}\u{626}\u{6cc}|\u{62c}\u{648}ٗ\u{646}|\u{62c}ُ\u{644}َ\u{6d2}|\u{627}\u{6af}\u{633}\u{62a}|\u{633}\u{62a}\u{645}\u{628}\u{631}|\u{627}\u{6a9}\u{62a}\u{648}ٗ\u{628}\u{631}|\u{646}\u{648}\u{645}\u{628}\u{631}|\u{62f}َ\u{633}َ\u{645}\u{628}َ\u{631}" ∷
    utf8 "\u{62c}|\u{641}|\u{645}|\u{627}|\u{645}|\u{62c}|\u{62c}|\u{627}|\u{633}|\u{633}|\u{627}|\u{646}" ∷
    []

unfoldable pub texts_19 : List Text
texts_19 =
    utf8 "\u{62c}\u{646}\u{624}\u{631}\u{6cc}|\u{641}\u{631}\u{624}\u{631}\u{6cc}|\u{645}\u{627}\u{631}ٕ\u{686}|\u{627}\u{67e}\u{631}\u{6cc}\u{644}|\u{645}\u{626}\u{6cc}|\u{62c}\u{648}ٗ\u{646}|\u{62c}\u{648}ٗ\u{644}\u{627}\u{6cc}\u{6cc}|\u{627}\u{6af}\u{633}\u{62a}|\u{633}\u{62a}\u{645}\u{628}\u{631}|\u{627}\u{6a9}\u{62a}\u{648}ٗ\u{628}\u{631}|\u{646}\u{648}\u{645}\u{628}\u{631}|\u{62f}\u{633}\u{645}\u{628}\u{631}" ∷
    utf8 "\u{622}\u{62a}\u{6be}\u{648}\u{627}\u{631}|\u{698}ٔ\u{646}\u{62f}ٕ\u{631}\u{648}\u{627}\u{631}|\u{628}\u{6c6}\u{645}\u{648}\u{627}\u{631}|\u{628}\u{648}\u{62f}\u{648}\u{627}\u{631}|\u{628}\u{631}\u{620}\u{633}\u{648}\u{627}\u{631}|\u{62c}ُ\u{645}\u{6c1}|\u{628}\u{679}\u{648}\u{627}\u{631}" ∷
    utf8 "\u{627}َ\u{62a}\u{6be}\u{648}\u{627}\u{631}|\u{698}ٔ\u{646}\u{62f}\u{631}ٕ\u{631}\u{648}\u{627}\u{631}|\u{628}\u{6c6}\u{645}\u{648}\u{627}\u{631}|\u{628}\u{648}\u{62f}\u{648}\u{627}\u{631}|\u{628}\u{631}\u{620}\u{633}\u{648}\u{627}\u{631}|\u{62c}ُ\u{645}\u{6c1}|\u{628}\u{679}\u{648}\u{627}\u{631}" ∷
    utf8 "\u{627}|\u{698}|\u{628}|\u{628}|\u{628}|\u{62c}|\u{628}" ∷
    utf8 "\u{628}\u{6cc} \u{633}\u{6cc}|\u{627}\u{6d2} \u{688}\u{6cc}" ∷
    utf8 "\u{642}\u{628}ٕ\u{644} \u{645}\u{633}\u{6cc}ٖ\u{62d}|\u{627}\u{6cc}\u{646}\u{648} \u{688}\u{648}\u{645}\u{646}\u{6cc}" ∷
    utf8 "\u{627}\u{6d2} \u{627}\u{6cc}\u{645}|\u{67e}\u{6cc} \u{627}\u{6cc}\u{645}" ∷
    utf8 "UTC|\u{6a9}\u{648}\u{622}\u{631}\u{688}\u{646}\u{6cc}\u{679}\u{688} \u{6cc}\u{648}\u{646}\u{6cc}\u{648}\u{631}\u{633}\u{644} \u{648}َ\u{6a9}\u{6be}" ∷
    utf8 "Ng’ezi|Siku|Saa|Dakika|Sekunde|Namshii" ∷
    utf8 "Januali|Febluali|Machi|Aplili|Mei|Juni|Julai|Agosti|Septemba|Oktoba|Novemba|Desemba" ∷
    utf8 "Jpi|Jtt|Jmn|Jtn|Alh|Iju|Jmo" ∷ utf8 "Jumaapii|Jumaatatu|Jumaane|Jumaatano|Alhamisi|Ijumaa|Jumaamosi" ∷
    utf8 "2|3|4|5|A|I|1" ∷ utf8 "Kabla ya Klisto|Baada ya Klisto" ∷ utf8 "makeo|nyiaghuo" ∷
    utf8 "Ŋwíí|Ŋwós|Cámɛɛn|Mǝnít|Háu|Sárúwá / Cɛɛ́nko" ∷ utf8 "ŋ1|ŋ2|ŋ3|ŋ4|ŋ5|ŋ6|ŋ7|ŋ8|ŋ9|ŋ10|ŋ11|ŋ12" ∷
    utf8 "ŋwíí a ntɔ́ntɔ|ŋwíí akǝ bɛ́ɛ|ŋwíí akǝ ráá|ŋwíí akǝ nin|ŋwíí akǝ táan|ŋwíí akǝ táafɔk|ŋwíí akǝ táabɛɛ|ŋwíí akǝ táaraa|ŋwíí akǝ táanin|ŋwíí akǝ ntɛk|ŋwíí akǝ ntɛk di bɔ́k|ŋwíí akǝ ntɛk di bɛ́ɛ" ∷
    utf8 "sɔ́n|lǝn|maa|mɛk|jǝǝ|júm|sam" ∷ utf8 "sɔ́ndǝ|lǝndí|maadí|mɛkrɛdí|jǝǝdí|júmbá|samdí" ∷
    utf8 "s|l|m|m|j|j|s" ∷ utf8 "d.Y.|k.Y." ∷ utf8 "di Yɛ́sus aká yálɛ|cámɛɛn kǝ kǝbɔpka Y" ∷
    utf8 "sárúwá|cɛɛ́nko" ∷ utf8 "E 'dä' d." ∷ utf8 "EEEE, 'dä' d. MMMM y" ∷ utf8 "d. MMM. y" ∷
    utf8 "E d. MMM. y" ∷ utf8 "Mohnd|Daach|Schtund|Menutt|Sekond|Daachteil" ∷
    utf8 "Jan|Fäb|Mäz|Apr|Mai|Jun|Jul|Ouj|Säp|Okt|Nov|Dez" ∷
    utf8 "Jannewa|Fäbrowa|Määz|Aprell|Mai|Juuni|Juuli|Oujoß|Septämber|Oktohber|Novämber|Dezämber" ∷
    utf8 "J|F|M|A|M|J|J|O|S|O|N|D" ∷ utf8 "Jan.|Fäb.|Mäz.|Apr.|Mai|Jun.|Jul.|Ouj.|Säp.|Okt.|Nov.|Dez." ∷
    utf8 "Su.|Mo.|Di.|Me.|Du.|Fr.|Sa." ∷
    utf8 "Sunndaach|Mohndaach|Dinnsdaach|Metwoch|Dunnersdaach|Friidaach|Samsdaach" ∷ utf8 "vür Krestos|noh Krestos" ∷
    utf8 "vC|nC" ∷ utf8 "v.M.|n.M." ∷ utf8 "Uhr vörmiddaachs|Uhr nommendaachs" ∷ utf8 "G M/y" ∷ utf8 "G d/M/y, E" ∷
    utf8 "G d MMM, y" ∷ utf8 "G d/M/y" ∷ utf8 "d'ê' MMMM'ê'" ∷ utf8 "EEEE, d'ê' MMMM'a' y'an'" ∷
    utf8 "d'ê' MMMM'a' y'an'" ∷ utf8 "MMMM'a' y'an'" ∷ utf8 "meh|roj|saet|deqîqe|sanîye|BN/PN" ∷
    utf8 "rbn|sbt|adr|nsn|gln|hzr|trm|tbx|îln|cot|mjd|brf" ∷
    utf8 "rêbendan|sibat|adar|nîsan|gulan|hezîran|tîrmeh|tebax|îlon|cotmeh|mijdar|berfanbar" ∷
    utf8 "R|S|A|N|G|H|T|T|Î|C|M|B" ∷ utf8 "yşm|dşm|sşm|çşm|pşm|înî|şem" ∷
    utf8 "yekşem|duşem|sêşem|çarşem|pêncşem|înî|şemî" ∷ utf8 "Y|D|S|Ç|P|Î|Ş" ∷ utf8 "BM|PM" ∷
    utf8 "Berî Mîladê|Piştî Mîladê" ∷ utf8 "BN|PN" ∷ utf8 "bn|pn" ∷ utf8 "SGH|Saeta Gerdûnî ya Hevdemî" ∷
    utf8 "Gen|Hwe|Meu|Ebr|Me|Met|Gor|Est|Gwn|Hed|Du|Kev" ∷
    utf8 "mis Genver|mis Hwevrer|mis Meurth|mis Ebrel|mis Me|mis Metheven|mis Gortheren|mis Est|mis Gwynngala|mis Hedra|mis Du|mis Kevardhu" ∷
    utf8 "Sul|Lun|Mth|Mhr|Yow|Gwe|Sad" ∷ utf8 "dy Sul|dy Lun|dy Meurth|dy Merher|dy Yow|dy Gwener|dy Sadorn" ∷
    utf8 "1 'aã' 0" ∷ utf8 "lenju|dina|belā|miniṭ|sekenḍ|am/pm" ∷
    utf8 "pusu|maha|pagu|hire|bese|jaṭṭa|aasaḍi|srabĩ|bado|dasara|divi|pande" ∷
    utf8 "pusu lenju|maha lenju|pagu lenju|hire lenju|bese lenju|jaṭṭa lenju|aasaḍi lenju|srabĩ lenju|bado lenju|dasara lenju|divi lenju|pande lenju" ∷
    utf8 "pu|ma|pa|hi|be|ja|aa|sra|b|da|di|pa" ∷ utf8 "aadi|smba|manga|puda|laki|sukru|sani" ∷
    utf8 "aadi vara|smbara|mangaḍa|pudara|laki vara|sukru vara|sani vara" ∷ utf8 "aa|s|ma|pu|la|su|sa" ∷
    utf8 "bc|ad" ∷ utf8 "krisṭ purb nki|krisṭabd" ∷ utf8 "UTC|smani jaga pruti belā" ∷ utf8 "G y-'ж'." ∷
    utf8 "G y-'ж'. MMM" ∷ utf8 "G y-'ж'. d-MMM, E" ∷ utf8 "G y-'ж'. d-MMM" ∷ utf8 "dd-MM, E" ∷ utf8 "d-MMM, E" ∷
    utf8 "d-MMMM" ∷ utf8 "y-'ж'., d-MMMM, EEEE" ∷ utf8 "y-'ж'., d-MMMM" ∷ utf8 "y-'ж'. d-MMM" ∷ utf8 "y-dd-MM, E" ∷
    utf8 "y-'ж'. MMM" ∷ utf8 "y-'ж'. d-MMM, E" ∷ utf8 "y-'ж'., MMMM" ∷ utf8 "y-dd-MM" ∷ utf8 "y-'ж'., d-MMM" ∷
    utf8 "ай|күн|саат|мүнөт|секунд|ТЧ/ТК" ∷ utf8 "янв.|фев.|мар.|апр.|май|июн.|июл.|авг.|сен.|окт.|ноя.|дек." ∷
    utf8 "Янв|Фев|Мар|Апр|Май|Июн|Июл|Авг|Сен|Окт|Ноя|Дек" ∷
    utf8 "Январь|Февраль|Март|Апрель|Май|Июнь|Июль|Август|Сентябрь|Октябрь|Ноябрь|Декабрь" ∷
    utf8 "жек.|дүй.|шейш.|шарш.|бейш.|жума|ишм." ∷ utf8 "жекшемби|дүйшөмбү|шейшемби|шаршемби|бейшемби|жума|ишемби" ∷
    utf8 "Ж|Д|Ш|Ш|Б|Ж|И" ∷ utf8 "б.з.ч.|б.з." ∷ utf8 "биздин заманга чейин|биздин заман" ∷ utf8 "тң|тк" ∷
    utf8 "таңкы|түштөн кийинки" ∷ utf8 "|чак түш|эртең менен|түштөн кийин|кечинде|түн ичинде||||" ∷
    utf8 "|чт|эртң мн|түшт кйн|кечк|түн||||" ∷ utf8 "UTC|Бирдиктүү дүйнөлүк убакыт" ∷
    utf8 "Mweéri|Sikʉ|Sáa|Dakíka|Sekúunde|Mpɨɨndɨ ja sikʉ" ∷
    utf8 "Fúngatɨ|Naanɨ|Keenda|Ikúmi|Inyambala|Idwaata|Mʉʉnchɨ|Vɨɨrɨ|Saatʉ|Inyi|Saano|Sasatʉ" ∷
    utf8 "Kʉfúngatɨ|Kʉnaanɨ|Kʉkeenda|Kwiikumi|Kwiinyambála|Kwiidwaata|Kʉmʉʉnchɨ|Kʉvɨɨrɨ|Kʉsaatʉ|Kwiinyi|Kʉsaano|Kʉsasatʉ" ∷
    utf8 "F|N|K|I|I|I|M|V|S|I|S|S" ∷ utf8 "Píili|Táatu|Íne|Táano|Alh|Ijm|Móosi" ∷
    utf8 "Jumapíiri|Jumatátu|Jumaíne|Jumatáano|Alamíisi|Ijumáa|Jumamóosi" ∷ utf8 "P|T|E|O|A|I|M" ∷ utf8 "KSA|KA" ∷
    utf8 "Kɨrɨsitʉ sɨ anavyaal|Kɨrɨsitʉ akavyaalwe" ∷ utf8 "TOO|MUU" ∷ utf8 "HH 'Auer'" ∷
    utf8 "Mount|Dag|Stonn|Minutt|Sekonn|Dageshallschent" ∷
    utf8 "Jan.|Feb.|Mäe.|Abr.|Mee|Juni|Juli|Aug.|Sep.|Okt.|Nov.|Dez." ∷
    utf8 "Januar|Februar|Mäerz|Abrëll|Mee|Juni|Juli|August|September|Oktober|November|Dezember" ∷
    utf8 "Jan|Feb|Mäe|Abr|Mee|Jun|Jul|Aug|Sep|Okt|Nov|Dez" ∷ utf8 "Son.|Méi.|Dën.|Mët.|Don.|Fre.|Sam." ∷
    []

unfoldable pub texts_20 : List Text
texts_20 =
    utf8 "Sonndeg|Méindeg|Dënschdeg|Mëttwoch|Donneschdeg|Freideg|Samschdeg" ∷ utf8 "Son|Méi|Dën|Mët|Don|Fre|Sam" ∷
    utf8 "moies|nomëttes" ∷ utf8 "mo.|nomë." ∷ utf8 "Mwezi|Lunaku|Saawa|Dakiika|Kasikonda|AM/PM" ∷
    utf8 "Jan|Feb|Mar|Apu|Maa|Juu|Jul|Agu|Seb|Oki|Nov|Des" ∷
    utf8 "Janwaliyo|Febwaliyo|Marisi|Apuli|Maayi|Juuni|Julaayi|Agusito|Sebuttemba|Okitobba|Novemba|Desemba" ∷
    utf8 "Sab|Bal|Lw2|Lw3|Lw4|Lw5|Lw6" ∷ utf8 "Sabbiiti|Balaza|Lwakubiri|Lwakusatu|Lwakuna|Lwakutaano|Lwamukaaga" ∷
    utf8 "S|B|L|L|L|L|L" ∷ utf8 "Kulisito nga tannaza|Bukya Kulisito Azaal" ∷ utf8 "d MMM 'do' y" ∷
    utf8 "de zenâ|de frevâ|de marso|d’arvî|de mazzo|de zugno|de luggio|d’agosto|de settembre|d’ottobre|de novembre|de dexembre" ∷
    utf8 "domenega|lunesdì|mätesdì|mäcordì|zeuggia|venardì|sabbo" ∷
    utf8 "Wí|Aŋpétu|Owápȟe|Owápȟe oȟʼáŋkȟo|Okpí|Dayperiod" ∷
    utf8 "Wiótheȟika Wí|Thiyóȟeyuŋka Wí|Ištáwičhayazaŋ Wí|Pȟežítȟo Wí|Čhaŋwápetȟo Wí|Wípazukȟa-wašté Wí|Čhaŋpȟásapa Wí|Wasútȟuŋ Wí|Čhaŋwápeǧi Wí|Čhaŋwápe-kasná Wí|Waníyetu Wí|Tȟahékapšuŋ Wí" ∷
    utf8 "Aŋpétuwakȟaŋ|Aŋpétuwaŋži|Aŋpétunuŋpa|Aŋpétuyamni|Aŋpétutopa|Aŋpétuzaptaŋ|Owáŋgyužažapi" ∷
    utf8 "A|W|N|Y|T|Z|O" ∷ utf8 "sginer|fevrer|marz|avril|masg|sgiugn|luj|avost|setember|otover|november|dicember" ∷
    utf8 "domenega|lundì|mardì|mercoldì|sgiovedì|venerdì|sabet" ∷ utf8 "del matin|de sira" ∷
    utf8 "Sánzá|Mokɔlɔ|Ngonga|Monúti|Sɛkɔ́ndɛ|Eleko ya mokɔlɔ" ∷
    utf8 "yan|fbl|msi|apl|mai|yun|yul|agt|stb|ɔtb|nvb|dsb" ∷
    utf8 "sánzá ya yambo|sánzá ya míbalé|sánzá ya mísáto|sánzá ya mínei|sánzá ya mítáno|sánzá ya motóbá|sánzá ya nsambo|sánzá ya mwambe|sánzá ya libwa|sánzá ya zómi|sánzá ya zómi na mɔ̌kɔ́|sánzá ya zómi na míbalé" ∷
    utf8 "y|f|m|a|m|y|y|a|s|ɔ|n|d" ∷ utf8 "eye|ybo|mbl|mst|min|mtn|mps" ∷
    utf8 "eyenga|mokɔlɔ mwa yambo|mokɔlɔ mwa míbalé|mokɔlɔ mwa mísáto|mokɔlɔ ya mínéi|mokɔlɔ ya mítáno|mpɔ́sɔ" ∷
    utf8 "e|y|m|m|m|m|p" ∷ utf8 "libóso ya|nsima ya Y" ∷ utf8 "Yambo ya Yézu Krís|Nsima ya Yézu Krís" ∷
    utf8 "ntɔ́ngɔ́|mpókwa" ∷ utf8 "E h ໂມງa" ∷ utf8 "E, G d/M/y" ∷ utf8 "E d MMMM, G y" ∷
    utf8 "d MMMM, G y" ∷ utf8 "d/M/GGGGG y" ∷ utf8 "H ໂມງ m ນາທີ ss ວິນາທີ zzzz" ∷
    utf8 "H ໂມງ m ນາທີ ss ວິນາທີ z" ∷ utf8 "h ໂມງa" ∷ utf8 "h ໂມງa v" ∷
    utf8 "ເດືອນ|ມື້|ຊົ່ວໂມງ|ນາທີ|ວິນາທີ|ກ່ອນທ່ຽງ/ຫຼັງທ່ຽງ" ∷
    utf8 "ມ.ກ.|ກ.ພ.|ມ.ນ.|ມ.ສ.|ພ.ພ.|ມິ.ຖ.|ກ.ລ.|ສ.ຫ.|ກ.ຍ.|ຕ.ລ.|ພ.ຈ.|ທ.ວ." ∷
    utf8 "ມັງກອນ|ກຸມພາ|ມີນາ|ເມສາ|ພຶດສະພາ|ມິຖຸນາ|ກໍລະກົດ|ສິງຫາ|ກັນຍາ|ຕຸລາ|ພະຈິກ|ທັນວາ" ∷
    utf8 "ອາທິດ|ຈັນ|ອັງຄານ|ພຸດ|ພະຫັດ|ສຸກ|ເສົາ" ∷
    utf8 "ວັນອາທິດ|ວັນຈັນ|ວັນອັງຄານ|ວັນພຸດ|ວັນພະຫັດ|ວັນສຸກ|ວັນເສົາ" ∷
    utf8 "ອາ|ຈ|ອ|ພ|ພຫ|ສຸ|ສ" ∷ utf8 "ກ່ອນ ຄ.ສ.|ຄ.ສ." ∷
    utf8 "ກ່ອນຄຣິດສັກກະລາດ|ຄຣິດສັກກະລາດ" ∷
    utf8 "ກ່ອນທ່ຽງ|ຫຼັງທ່ຽງ" ∷ utf8 "5555522222223333444455551" ∷
    utf8 "|ຕອນທ່ຽງ|ຕອນເຊົ້າ|ຕອນບ່າຍ|ຕອນແລງ|ກາງຄືນ||||" ∷
    utf8 "|ຕອນທ່ຽງ|ຕອນເຊົ້າ|ຕອນບ່າຍ|ຕອນແລງ|ຕອນກາງຄືນ||||" ∷
    utf8 "|ຕອນທ່ຽງ|ຕອນເຊົ້າ|ຕອນທ່ຽງ|ຕອນແລງ|ກາງຄືນ||||" ∷
    utf8 "UTC|ເວລາສາກົນເຊີງພິກັດ" ∷
    utf8 "\u{645}\u{627}|\u{631}\u{648}ٙ\u{632}|\u{633}\u{627}\u{623}\u{62a}|\u{62f}\u{626}\u{6cc}\u{642}\u{6d5}|\u{62b}\u{627}\u{646}\u{6cc}\u{6d5}|\u{6af}\u{627}\u{62a} \u{631}\u{648}ٙ\u{632}" ∷
    utf8 "\u{62c}\u{627}\u{646}\u{6a4}\u{6cc}\u{6d5}|\u{641}\u{626}\u{6a4}\u{631}\u{6cc}\u{6d5}|\u{645}\u{627}\u{631}\u{633}|\u{622}\u{6a4}\u{631}\u{6cc}\u{644}|\u{645}\u{626}\u{6cc}|\u{62c}\u{648}ٙ\u{623}\u{646}|\u{62c}\u{648}ٙ\u{644}\u{627}|\u{622}\u{6af}\u{648}\u{633}\u{62a}|\u{633}\u{626}\u{67e}\u{62a}\u{627}\u{645}\u{631}|\u{626}\u{648}\u{6a9}\u{62a}\u{648}\u{6a4}\u{631}|\u{646}\u{648}\u{6a4}\u{627}\u{645}\u{631}|\u{62f}\u{626}\u{633}\u{627}\u{645}\u{631}" ∷
    utf8 "h B, E" ∷ utf8 "h:mm B, E" ∷ utf8 "h:mm:ss B, E" ∷ utf8 "HH:mm, E" ∷ utf8 "HH:mm:ss, E" ∷ utf8 "h a, E" ∷
    utf8 "hh:mm a, E" ∷ utf8 "hh:mm:ss a, E" ∷ utf8 "y 'm'. G" ∷ utf8 "y-MM G" ∷ utf8 "y-MM-dd G, E" ∷
    utf8 "y 'm'. G, LLLL" ∷ utf8 "y 'm'. G MMMM d 'd'., E" ∷ utf8 "y 'm'. G MMMM d 'd'." ∷ utf8 "y-MM-dd G" ∷
    utf8 "HH:mm:ss; v" ∷ utf8 "HH:mm; v" ∷ utf8 "MMMM d 'd'., E" ∷ utf8 "MMMM d 'd'." ∷ utf8 "MM-d" ∷
    utf8 "hh:mm:ss a; v" ∷ utf8 "hh:mm a; v" ∷ utf8 "dd" ∷ utf8 "y 'm'. MMMM d 'd'., EEEE" ∷
    utf8 "y 'm'. MMMM d 'd'." ∷ utf8 "y 'm'. LLLL" ∷ utf8 "y 'm'. MMMM d 'd'., E" ∷
    utf8 "mėnuo|diena|valanda|minutė|sekundė|iki pietų / po pietų" ∷
    utf8 "saus.|vas.|kov.|bal.|geg.|birž.|liep.|rugp.|rugs.|spal.|lapkr.|gruod." ∷
    utf8 "sausio|vasario|kovo|balandžio|gegužės|birželio|liepos|rugpjūčio|rugsėjo|spalio|lapkričio|gruodžio" ∷
    utf8 "S|V|K|B|G|B|L|R|R|S|L|G" ∷
    utf8 "sausis|vasaris|kovas|balandis|gegužė|birželis|liepa|rugpjūtis|rugsėjis|spalis|lapkritis|gruodis" ∷
    utf8 "sk|pr|an|tr|kt|pn|št" ∷
    utf8 "sekmadienis|pirmadienis|antradienis|trečiadienis|ketvirtadienis|penktadienis|šeštadienis" ∷
    utf8 "S|P|A|T|K|P|Š" ∷ utf8 "pr. Kr.|po Kr." ∷ utf8 "prieš Kristų|po Kristaus" ∷ utf8 "priešpiet|popiet" ∷
    utf8 "pr. p.|pop." ∷ utf8 "|perpiet|rytas|popietė|vakaras|naktis||||" ∷ utf8 "GMT||+||−||:" ∷
    utf8 "UTC|pasaulio suderintasis laikas" ∷ utf8 "Ngondo|Dituku|Diba|Kasunsu|Kasunsukusu|Mutantshi wa diba" ∷
    utf8 "Cio|Lui|Lus|Muu|Lum|Luf|Kab|Lush|Lut|Lun|Kas|Cis" ∷
    utf8 "Ciongo|Lùishi|Lusòlo|Mùuyà|Lumùngùlù|Lufuimi|Kabàlàshìpù|Lùshìkà|Lutongolo|Lungùdi|Kaswèkèsè|Ciswà" ∷
    utf8 "C|L|L|M|L|L|K|L|L|L|K|C" ∷ utf8 "Lum|Nko|Ndy|Ndg|Njw|Ngv|Lub" ∷
    utf8 "Lumingu|Nkodya|Ndàayà|Ndangù|Njòwa|Ngòvya|Lubingu" ∷ utf8 "L|N|N|N|N|N|L" ∷ utf8 "kmp. Y.K.|kny. Y. K." ∷
    utf8 "Kumpala kwa Yezu Kli|Kunyima kwa Yezu Kli" ∷ utf8 "Dinda|Dilolo" ∷
    utf8 "dwe|chieng’|saa|dakika|nyiriri mar saa|odieochieng’/otieno" ∷
    utf8 "DAC|DAR|DAD|DAN|DAH|DAU|DAO|DAB|DOC|DAP|DGI|DAG" ∷
    utf8 "Dwe mar Achiel|Dwe mar Ariyo|Dwe mar Adek|Dwe mar Ang’wen|Dwe mar Abich|Dwe mar Auchiel|Dwe mar Abiriyo|Dwe mar Aboro|Dwe mar Ochiko|Dwe mar Apar|Dwe mar gi achiel|Dwe mar Apar gi ariyo" ∷
    utf8 "C|R|D|N|B|U|B|B|C|P|C|P" ∷ utf8 "JMP|WUT|TAR|TAD|TAN|TAB|NGS" ∷
    utf8 "Jumapil|Wuok Tich|Tich Ariyo|Tich Adek|Tich Ang’wen|Tich Abich|Ngeso" ∷ utf8 "J|W|T|T|T|T|N" ∷
    utf8 "Kapok Kristo obiro|Ka Kristo osebiro" ∷ utf8 "OD|OT" ∷
    utf8 "Mweri|Ridiku|Isaa|Idagika|Sekunde|Vuche/Vwira" ∷ utf8 "Jan|Feb|Mar|Apr|Mei|Jun|Jul|Ago|Sep|Okt|Nov|Des" ∷
    utf8 "J2|J3|J4|J5|Al|Ij|J1" ∷
    []

unfoldable pub texts_21 : List Text
texts_21 =
    utf8 "Jumapiri|Jumatatu|Jumanne|Jumatano|Murwa wa Kanne|Murwa wa Katano|Jumamosi" ∷
    utf8 "Imberi ya Kuuza Kwa|Muhiga Kuvita Kuuza" ∷ utf8 "G y. 'g'." ∷ utf8 "G y. 'g'. MMM" ∷
    utf8 "E, G y. 'g'. d. MMM" ∷ utf8 "G y. 'g'. d. MMM" ∷ utf8 "E, dd.MM." ∷ utf8 "y. 'g'." ∷
    utf8 "EEEE, y. 'gada' d. MMMM" ∷ utf8 "y. 'gada' d. MMMM" ∷ utf8 "y. 'g'. d. MMM" ∷ utf8 "MM.y." ∷
    utf8 "E, d.MM.y." ∷ utf8 "y. 'g'. MMM" ∷ utf8 "E, y. 'g'. d. MMM" ∷ utf8 "y. 'g'. MMMM" ∷ utf8 "d.MM.y." ∷
    utf8 "y. 'gada' d. MMM" ∷ utf8 "mēnesis|diena|stundas|minūtes|sekundes|priekšpusdienā/pēcpusdienā" ∷
    utf8 "janv.|febr.|marts|apr.|maijs|jūn.|jūl.|aug.|sept.|okt.|nov.|dec." ∷
    utf8 "janvāris|februāris|marts|aprīlis|maijs|jūnijs|jūlijs|augusts|septembris|oktobris|novembris|decembris" ∷
    utf8 "svētd.|pirmd.|otrd.|trešd.|ceturtd.|piektd.|sestd." ∷
    utf8 "svētdiena|pirmdiena|otrdiena|trešdiena|ceturtdiena|piektdiena|sestdiena" ∷ utf8 "S|P|O|T|C|P|S" ∷
    utf8 "Svētd.|Pirmd.|Otrd.|Trešd.|Ceturtd.|Piektd.|Sestd." ∷
    utf8 "Svētdiena|Pirmdiena|Otrdiena|Trešdiena|Ceturtdiena|Piektdiena|Sestdiena" ∷ utf8 "p.m.ē.|m.ē." ∷
    utf8 "pirms mūsu ēras|mūsu ērā" ∷ utf8 "priekšp.|pēcp." ∷ utf8 "priekšpusdienā|pēcpusdienā" ∷
    utf8 "5555552222223333334444451" ∷ utf8 "|pusd.|no rīta|pēcpusd.|vakarā|naktī||||" ∷
    utf8 "|pusdienlaikā|no rīta|pēcpusdienā|vakarā|naktī||||" ∷ utf8 "UTC|Universālais koordinētais laiks" ∷
    utf8 "1 के 0" ∷
    utf8 "महीना|दिन|घंटा|मिनट|सेकंड|पूर्वाह्न/अपराह्न" ∷
    utf8 "जन॰|फ़र॰|मार्च|अप्रैल|मई|जून|जुल॰|अग॰|सित॰|अक्तू॰|नव॰|दिस॰" ∷
    utf8 "जनवरी|फरवरी|मार्च|अप्रैल|मई|जून|जुलाई|अगस्त|सितंबर|अक्तूबर|नवंबर|दिसंबर" ∷
    utf8 "ज|फ|मा|अ|म|जू|जु|अ|सि|अ|न|दि" ∷
    utf8 "जन॰|फर॰|मार्च|अप्रैल|मई|जून|जुल॰|अग॰|सित॰|अक्तू॰|नव॰|दिस॰" ∷
    utf8 "रवि दिन|सोम दिन|मंगल दिन|बुध दिन|बृहस्पति दिन|शुक्र दिन|शनि दिन" ∷
    utf8 "ईसा-पूर्व|ईसवी" ∷ utf8 "जीएमटी||+||-||:" ∷
    utf8 "Ɔlápà|Ɛnkɔlɔ́ŋ|Ɛ́sáâ|Oldákikaè|Sekunde|Ɛnkakɛnyá/Ɛndámâ" ∷
    utf8 "Dal|Ará|Ɔɛn|Doy|Lép|Rok|Sás|Bɔ́r|Kús|Gís|Shʉ́|Ntʉ́" ∷
    utf8 "Oladalʉ́|Arát|Ɔɛnɨ́ɔɨŋɔk|Olodoyíóríê inkókúâ|Oloilépūnyīē inkókúâ|Kújúɔrɔk|Mórusásin|Ɔlɔ́ɨ́bɔ́rárɛ|Kúshîn|Olgísan|Pʉshʉ́ka|Ntʉ́ŋʉ́s" ∷
    utf8 "Jumapílí|Jumatátu|Jumane|Jumatánɔ|Alaámisi|Jumáa|Jumamósi" ∷ utf8 "MY|EY" ∷
    utf8 "Meínō Yɛ́sʉ|Eínō Yɛ́sʉ" ∷ utf8 "Ɛnkakɛnyá|Ɛndámâ" ∷
    utf8 "Mweri|Ntukũ|Ĩthaa|Ndagika|Sekondi|Mũthenya" ∷ utf8 "JAN|FEB|MAC|ĨPU|MĨĨ|NJU|NJR|AGA|SPT|OKT|NOV|DEC" ∷
    utf8 "Januarĩ|Feburuarĩ|Machi|Ĩpurũ|Mĩĩ|Njuni|Njuraĩ|Agasti|Septemba|Oktũba|Novemba|Dicemba" ∷
    utf8 "J|F|M|Ĩ|M|N|N|A|S|O|N|D" ∷ utf8 "KIU|MRA|WAI|WET|WEN|WTN|JUM" ∷
    utf8 "Kiumia|Muramuko|Wairi|Wethatu|Wena|Wetano|Jumamosi" ∷ utf8 "K|M|W|W|W|W|J" ∷ utf8 "MK|NK" ∷
    utf8 "Mbere ya Kristũ|Nyuma ya Kristũ" ∷ utf8 "RŨ|ŨG" ∷ utf8 "Mwa|Zour|Ler|Minit|Segonn|Peryod dan lazourne" ∷
    utf8 "zan|fev|mar|avr|me|zin|zil|out|sep|okt|nov|des" ∷
    utf8 "zanvie|fevriye|mars|avril|me|zin|zilye|out|septam|oktob|novam|desam" ∷ utf8 "z|f|m|a|m|z|z|o|s|o|n|d" ∷
    utf8 "dim|lin|mar|mer|ze|van|sam" ∷ utf8 "dimans|lindi|mardi|merkredi|zedi|vandredi|samdi" ∷
    utf8 "d|l|m|m|z|v|s" ∷ utf8 "av. Z-K|ap. Z-K" ∷ utf8 "avan Zezi-Krist|apre Zezi-Krist" ∷
    utf8 "Volana|Andro|Ora|Minitra|Segondra|AM/PM" ∷ utf8 "Jan|Feb|Mar|Apr|Mey|Jon|Jol|Aog|Sep|Okt|Nov|Des" ∷
    utf8 "Janoary|Febroary|Martsa|Aprily|Mey|Jona|Jolay|Aogositra|Septambra|Oktobra|Novambra|Desambra" ∷
    utf8 "Alah|Alats|Tal|Alar|Alak|Zom|Asab" ∷ utf8 "Alahady|Alatsinainy|Talata|Alarobia|Alakamisy|Zoma|Asabotsy" ∷
    utf8 "A|A|T|A|A|Z|A" ∷ utf8 "Alohan’i JK|Aorian’i JK" ∷ utf8 "mweri|nihuku|isaa|idakika|isekunde|Dayperiod" ∷
    utf8 "Kwa|Una|Rar|Che|Tha|Moc|Sab|Nan|Tis|Kum|Moj|Yel" ∷
    utf8 "Mweri wo kwanza|Mweri wo unayeli|Mweri wo uneraru|Mweri wo unecheshe|Mweri wo unethanu|Mweri wo thanu na mocha|Mweri wo saba|Mweri wo nane|Mweri wo tisa|Mweri wo kumi|Mweri wo kumi na moja|Mweri wo kumi na yel’li" ∷
    utf8 "K|U|R|C|T|M|S|N|T|K|M|Y" ∷ utf8 "Sab|Jtt|Jnn|Jtn|Ara|Iju|Jmo" ∷
    utf8 "Sabato|Jumatatu|Jumanne|Jumatano|Arahamisi|Ijumaa|Jumamosi" ∷ utf8 "S|J|J|J|A|I|J" ∷ utf8 "HY|YY" ∷
    utf8 "Hinapiya yesu|Yopia yesu" ∷ utf8 "wichishu|mchochil’l" ∷ utf8 "iməg|anəg|Hour|Minute|Second|Dayperiod" ∷
    utf8 "mbegtug|imeg àbùbì|imeg mbəŋchubi|iməg ngwə̀t|iməg fog|iməg ichiibɔd|iməg àdùmbə̀ŋ|iməg ichika|iməg kud|iməg tèsiʼe|iməg zò|iməg krizmed" ∷
    utf8 "iməg mbegtug|imeg àbùbì|imeg mbəŋchubi|iməg ngwə̀t|iməg fog|iməg ichiibɔd|iməg àdùmbə̀ŋ|iməg ichika|iməg kud|iməg tèsiʼe|iməg zò|iməg krizmed" ∷
    utf8 "M1|A2|M3|N4|F5|I6|A7|I8|K9|10|11|12" ∷ utf8 "Aneg 1|Aneg 2|Aneg 3|Aneg 4|Aneg 5|Aneg 6|Aneg 7" ∷
    utf8 "1|2|3|4|5|6|7" ∷ utf8 "1 'i' 0" ∷ utf8 "marama|rā|hāora|meneti|hēkona|i te ata/i te ahiahi/i te pō" ∷
    utf8 "Hān|Pēp|Māe|Āpe|Mei|Hun|Hūr|Āku|Hep|Oke|Noe|Tīh" ∷
    utf8 "Hānuere|Pēpuere|Māehe|Āpereira|Mei|Hune|Hūrae|Ākuhata|Hepetema|Oketopa|Noema|Tīhema" ∷
    utf8 "H|P|M|Ā|M|H|H|Ā|H|O|N|T" ∷
    utf8 "Hānuere|Pēpuere|Māehe|Āperira|Mei|Hune|Hūrae|Ākuhata|Hepetema|Oketopa|Noema|Tīhema" ∷
    utf8 "Rāt|Man|Tūr|Wen|Tāi|Par|Rāh" ∷ utf8 "Rātapu|Mane|Tūrei|Wenerei|Tāite|Paraire|Rāhoroi" ∷
    utf8 "Rt|M|T|W|T|P|Rh" ∷ utf8 "UTC|Wā Aonui Kōtuitui" ∷ utf8 "MMM y 'г'. G" ∷ utf8 "d.M.y 'г'. G" ∷
    utf8 "HH 'ч'. v" ∷ utf8 "d.M.y 'г'." ∷ utf8 "M.y 'г'." ∷ utf8 "E, d.M.y 'г'." ∷ utf8 "MMM y 'г'." ∷
    utf8 "E, d MMM y 'г'." ∷ utf8 "1, 'во' 0" ∷ utf8 "месец|ден|час|минута|секунда|претпладне/попладне" ∷
    utf8 "јан.|фев.|мар.|апр.|мај|јун.|јул.|авг.|сеп.|окт.|ное.|дек." ∷
    utf8 "јануари|февруари|март|април|мај|јуни|јули|август|септември|октомври|ноември|декември" ∷
    utf8 "ј|ф|м|а|м|ј|ј|а|с|о|н|д" ∷ utf8 "нед.|пон.|вто.|сре.|чет.|пет.|саб." ∷
    utf8 "недела|понеделник|вторник|среда|четврток|петок|сабота" ∷ utf8 "пр. н. е.|н. е." ∷
    utf8 "пред нашата ера|од нашата ера" ∷ utf8 "претпл.|попл." ∷
    []

unfoldable pub texts_22 : List Text
texts_22 =
    utf8 "5555222222663333334444441" ∷ utf8 "|напладне|наутро|попладне|навечер|ноќе|претпладне|||" ∷
    utf8 "|напл.|наутро|попл.|навечер|ноќе|претпл.|||" ∷ utf8 "UTC|Координирано универзално време" ∷ utf8 "G y/M/d" ∷
    utf8 "v HH:mm" ∷ utf8 "v HH'h'" ∷ utf8 "MMMM d, E" ∷ utf8 "zzzz h:mm:ss a" ∷ utf8 "z h:mm:ss a" ∷
    utf8 "v h:mm:ss a" ∷ utf8 "v h:mm a" ∷ utf8 "v h a" ∷ utf8 "d/M/y, E" ∷ utf8 "1, 0-ന്" ∷
    utf8 "മാസം|ദിവസം|മണിക്കൂർ|മിനിറ്റ്|സെക്കൻഡ്|AM/PM" ∷
    utf8 "ജനു|ഫെബ്രു|മാർ|ഏപ്രി|മേയ്|ജൂൺ|ജൂലൈ|ഓഗ|സെപ്റ്റം|ഒക്ടോ|നവം|ഡിസം" ∷
    utf8 "ജനുവരി|ഫെബ്രുവരി|മാർച്ച്|ഏപ്രിൽ|മേയ്|ജൂൺ|ജൂലൈ|ഓഗസ്റ്റ്|സെപ്റ്റംബർ|ഒക്\u{200c}ടോബർ|നവംബർ|ഡിസംബർ" ∷
    utf8 "ജ|ഫെ|മാ|ഏ|മെ|ജൂൺ|ജൂ|ഓ|സെ|ഒ|ന|ഡി" ∷
    utf8 "ഞായർ|തിങ്കൾ|ചൊവ്വ|ബുധൻ|വ്യാഴം|വെള്ളി|ശനി" ∷
    utf8 "ഞായറാഴ്\u{200c}ച|തിങ്കളാഴ്\u{200c}ച|ചൊവ്വാഴ്ച|ബുധനാഴ്\u{200c}ച|വ്യാഴാഴ്\u{200c}ച|വെള്ളിയാഴ്\u{200c}ച|ശനിയാഴ്\u{200c}ച" ∷
    utf8 "ഞ|തി|ചൊ|ബു|വ്യാ|വെ|ശ" ∷
    utf8 "ഞായറാഴ്\u{200c}ച|തിങ്കളാഴ്\u{200c}ച|ചൊവ്വാഴ്\u{200c}ച|ബുധനാഴ്\u{200c}ച|വ്യാഴാഴ്\u{200c}ച|വെള്ളിയാഴ്\u{200c}ച|ശനിയാഴ്\u{200c}ച" ∷
    utf8 "ഞാ|തി|ചൊ|ബു|വ്യാ|വെ|ശ" ∷ utf8 "ബിസി|എഡി" ∷
    utf8 "ക്രിസ്\u{200c}തുവിന് മുമ്പ്|ആന്നോ ഡൊമിനി" ∷
    utf8 "5552226666663374448555551" ∷
    utf8 "|ഉച്ച|പുലർച്ചെ|ഉച്ചയ്ക്ക്|വൈകുന്നേരം|രാത്രി|രാവിലെ|ഉച്ചതിരിഞ്ഞ്|സന്ധ്യ|" ∷
    utf8 "ജിഎംടി||+||-||:" ∷
    utf8 "UTC|കോർഡിനേറ്റഡ് യൂണിവേഴ്\u{200c}സൽ സമയം" ∷
    utf8 "B h 'ц'" ∷ utf8 "E. B h:mm" ∷ utf8 "E. B h:mm:ss" ∷ utf8 "E. HH:mm" ∷ utf8 "E. HH:mm:ss" ∷ utf8 "dd. E" ∷
    utf8 "E. h:mm a" ∷ utf8 "E. h:mm:ss a" ∷ utf8 "G y 'оны' MMM" ∷ utf8 "G y 'оны' MMM'ын' d. E" ∷
    utf8 "G y 'оны' MMM'ын' d" ∷ utf8 "HH 'ц'" ∷ utf8 "HH'ц' v" ∷ utf8 "LLLLL" ∷ utf8 "MMMMM/dd. E" ∷
    utf8 "MMM'ын' d. E" ∷ utf8 "MMMM'ын' d" ∷ utf8 "MMM'ын' d" ∷ utf8 "MMMMM/dd" ∷ utf8 "h 'ц' a" ∷
    utf8 "y 'оны' MMMM'ын' d, EEEE 'гараг'" ∷ utf8 "y 'оны' MMMM'ын' d" ∷ utf8 "y 'оны' MMM'ын' d" ∷ utf8 "y MMMMM" ∷
    utf8 "y.MM.dd. E" ∷ utf8 "y 'оны' MMM" ∷ utf8 "y 'оны' MMM'ын' d. E" ∷ utf8 "y 'оны' MMMM" ∷
    utf8 "сар|өдөр|цаг|минут|секунд|ү.ө./ү.х." ∷
    utf8 "1-р сар|2-р сар|3-р сар|4-р сар|5-р сар|6-р сар|7-р сар|8-р сар|9-р сар|10-р сар|11-р сар|12-р сар" ∷
    utf8 "нэгдүгээр сар|хоёрдугаар сар|гуравдугаар сар|дөрөвдүгээр сар|тавдугаар сар|зургаадугаар сар|долоодугаар сар|наймдугаар сар|есдүгээр сар|аравдугаар сар|арван нэгдүгээр сар|арван хоёрдугаар сар" ∷
    utf8 "I|II|III|IV|V|VI|VII|VIII|IX|X|XI|XII" ∷
    utf8 "Нэгдүгээр сар|Хоёрдугаар сар|Гуравдугаар сар|Дөрөвдүгээр сар|Тавдугаар сар|Зургаадугаар сар|Долоодугаар сар|Наймдугаар сар|Есдүгээр сар|Аравдугаар сар|Арван нэгдүгээр сар|Арван хоёрдугаар сар" ∷
    utf8 "Ня|Да|Мя|Лх|Пү|Ба|Бя" ∷ utf8 "ням|даваа|мягмар|лхагва|пүрэв|баасан|бямба" ∷
    utf8 "Ням|Даваа|Мягмар|Лхагва|Пүрэв|Баасан|Бямба" ∷ utf8 "МЭӨ|МЭ" ∷ utf8 "манай эриний өмнөх|манай эриний" ∷
    utf8 "ү.ө.|ү.х." ∷ utf8 "|үд дунд|өглөө|өдөр|орой|шөнө||||" ∷ utf8 "UTC|Олон улсын зохицуулалттай цаг" ∷
    utf8 "MMMM d, y, EEEE" ∷ utf8 "MMM d, y, E" ∷ utf8 "1 গী 0 দা" ∷
    utf8 "থা|নুমিৎ|পুং|মিনট|সেকেণ্ড|এ এম/পি এম" ∷
    utf8 "জন|ফেব্রুৱারি|মার্চ|এপ্রিল|মে|জুন|জুলাই|ওগ|সেপ্টেম্বর|ওক্টোবর|নভেম্বর|ডিসেম্বর" ∷
    utf8 "জনুৱারী|ফেব্রুৱারি|মার্চ|এপ্রিল|মে|জুন|জুলাই|\u{200c}ওগষ্ট|সেপ্টেম্বর|ওক্টোবর|নভেম্বর|ডিসেম্বর" ∷
    utf8 "জা|ফে|মার|এপ|মে|জুন|জুল|আ|সে|ওক|নব|ডি" ∷
    utf8 "জানু|ফেব্রু|মার|এপ্রি|মে|জুন|জুলা|আগ|সেপ্ট|ওক্টো|নভে|ডিসে" ∷
    utf8 "জানুৱারি|ফেব্রুৱারি|মার্চ|এপ্রিল|মে|জুন|জুলাই|ওগষ্ট|সেপ্টেম্বর|ওক্টোবর|নবেম্বর|ডিসেম্বর" ∷
    utf8 "জা|ফে|মার|এপ|মে|জুন|জুল|আ|সে|ও|নব|ডি" ∷
    utf8 "নোংমাইজিং|নিংথৌকাবা|লৈবাকপোকপা|য়ুমশকৈশা|শগোলশেন|ইরাই|থাংজ" ∷
    utf8 "নোং|নিং|লৈবা|য়ুম|শগো|ইরা|থাং" ∷
    utf8 "নো|নিং|লৈ|য়ুম|শগ|ইরা|থাং" ∷
    utf8 "খৃ: মমাং|খৃ: মতুং" ∷ utf8 "নুমাং|PM" ∷
    utf8 "এ এম|পি এম" ∷ utf8 "জি এম টি ||+||-||:" ∷
    utf8 "UTC|কোওর্দিনেটেদ য়ুনিভর্সেল টাইম" ∷
    utf8 "'h' HH v" ∷ utf8 "E, dd.MM" ∷ utf8 "E, dd.MM.y" ∷ utf8 "1 'la' 0" ∷
    utf8 "lună|zi|oră|minut|secundă|a.m./p.m." ∷ utf8 "ian.|feb.|mar.|apr.|mai|iun.|iul.|aug.|sept.|oct.|nov.|dec." ∷
    utf8 "ianuarie|februarie|martie|aprilie|mai|iunie|iulie|august|septembrie|octombrie|noiembrie|decembrie" ∷
    utf8 "I|F|M|A|M|I|I|A|S|O|N|D" ∷ utf8 "dum.|lun.|mar.|mie.|joi|vin.|sâm." ∷
    utf8 "duminică|luni|marți|miercuri|joi|vineri|sâmbătă" ∷ utf8 "î.Hr.|d.Hr." ∷
    utf8 "înainte de Hristos|după Hristos" ∷ utf8 "UTC|Timpul universal coordonat" ∷ utf8 "1 रोजी 0" ∷
    utf8 "1 रोजी 0 वाजता" ∷
    utf8 "महिना|दिवस|तास|मिनिट|सेकंद|AM/PM" ∷
    utf8 "जाने|फेब्रु|मार्च|एप्रि|मे|जून|जुलै|ऑग|सप्टें|ऑक्टो|नोव्हें|डिसें" ∷
    utf8 "जानेवारी|फेब्रुवारी|मार्च|एप्रिल|मे|जून|जुलै|ऑगस्ट|सप्टेंबर|ऑक्टोबर|नोव्हेंबर|डिसेंबर" ∷
    utf8 "रवि|सोम|मंगळ|बुध|गुरु|शुक्र|शनि" ∷
    utf8 "रविवार|सोमवार|मंगळवार|बुधवार|गुरुवार|शुक्रवार|शनिवार" ∷
    utf8 "ई. स. पू.|इ. स." ∷ utf8 "ईसवीसनपूर्व|ईसवीसन" ∷
    utf8 "5555226666663333444445551" ∷
    utf8 "|मध्यान्ह|पहाट|दुपार|संध्याकाळ|रात्र|सकाळ|||" ∷
    utf8 "|दु|प|दु|सं|रा|स|||" ∷ utf8 "[GMT]||+||-||:" ∷ utf8 "d/MM/yy" ∷ utf8 "1 'pada' 0" ∷
    utf8 "bulan|hari|jam|minit|saat|PG/PTG" ∷ utf8 "Jan|Feb|Mac|Apr|Mei|Jun|Jul|Ogo|Sep|Okt|Nov|Dis" ∷
    utf8 "Januari|Februari|Mac|April|Mei|Jun|Julai|Ogos|September|Oktober|November|Disember" ∷
    []

unfoldable pub texts_23 : List Text
texts_23 =
    utf8 "Ahd|Isn|Sel|Rab|Kha|Jum|Sab" ∷ utf8 "Ahad|Isnin|Selasa|Rabu|Khamis|Jumaat|Sabtu" ∷ utf8 "A|I|S|R|K|J|S" ∷
    utf8 "S.M.|TM" ∷ utf8 "PG|PTG" ∷ utf8 "266666666666334444455555" ∷
    utf8 "||pagi|tengah hari|petang|malam|pagi|||" ∷ utf8 "||tengah malam|tengah hari|petang|malam|pagi|||" ∷
    utf8 "UTC|Waktu Universal Selaras" ∷ utf8 "E, d 'ta'’ MMM, y G" ∷ utf8 "E, d 'ta'’ MMM" ∷ utf8 "d 'ta'’ MMMM" ∷
    utf8 "EEEE, d 'ta'’ MMMM y" ∷ utf8 "d 'ta'’ MMMM y" ∷ utf8 "E, d 'ta'’ MMM, y" ∷ utf8 "d 'ta'’ MMM, y" ∷
    utf8 "xahar|jum|siegħa|minuta|sekonda|AM/PM" ∷ utf8 "Jan|Fra|Mar|Apr|Mej|Ġun|Lul|Aww|Set|Ott|Nov|Diċ" ∷
    utf8 "Jannar|Frar|Marzu|April|Mejju|Ġunju|Lulju|Awwissu|Settembru|Ottubru|Novembru|Diċembru" ∷
    utf8 "J|F|M|A|M|Ġ|L|A|S|O|N|D" ∷ utf8 "Jn|Fr|Mz|Ap|Mj|Ġn|Lj|Aw|St|Ob|Nv|Dċ" ∷
    utf8 "Ħad|Tne|Tli|Erb|Ħam|Ġim|Sib" ∷ utf8 "Il-Ħadd|It-Tnejn|It-Tlieta|L-Erbgħa|Il-Ħamis|Il-Ġimgħa|Is-Sibt" ∷
    utf8 "Ħd|T|Tl|Er|Ħm|Ġm|Sb" ∷ utf8 "Ħd|Tn|Tl|Er|Ħm|Ġm|Sb" ∷ utf8 "QK|WK" ∷ utf8 "Qabel Kristu|Wara Kristu" ∷
    utf8 "Fĩi|Zah’nane/ Comme|Cok comme|Cok comme ma laŋne|Cok comme ma laŋ tǝ biŋ|Dayperiod" ∷
    utf8 "FLO|CLA|CKI|FMF|MAD|MBI|MLI|MAM|FDE|FMU|FGW|FYU" ∷
    utf8 "Fĩi Loo|Cokcwaklaŋne|Cokcwaklii|Fĩi Marfoo|Madǝǝuutǝbijaŋ|Mamǝŋgwãafahbii|Mamǝŋgwãalii|Madǝmbii|Fĩi Dǝɓlii|Fĩi Mundaŋ|Fĩi Gwahlle|Fĩi Yuru" ∷
    utf8 "O|A|I|F|D|B|L|M|E|U|W|Y" ∷ utf8 "Cya|Cla|Czi|Cko|Cka|Cga|Cze" ∷
    utf8 "Com’yakke|Comlaaɗii|Comzyiiɗii|Comkolle|Comkaldǝɓlii|Comgaisuu|Comzyeɓsuu" ∷ utf8 "Y|L|Z|O|A|G|E" ∷
    utf8 "KK|PK" ∷ utf8 "KǝPel Kristu|Pel Kristu" ∷ utf8 "comme|lilli" ∷ utf8 "d ရက် E" ∷
    utf8 "G y-MM-dd၊ E" ∷ utf8 "G y MMM d၊ E" ∷ utf8 "zzzz HH:mm:ss" ∷ utf8 "z HH:mm:ss" ∷ utf8 "v HH" ∷
    utf8 "d/M E" ∷ utf8 "MMM d E" ∷ utf8 "MMMM d E" ∷ utf8 "v a h:mm:ss" ∷ utf8 "v a h:mm" ∷ utf8 "v a h" ∷
    utf8 "y MMMM d EEEE" ∷ utf8 "d/M/y E" ∷ utf8 "y MMM d E" ∷
    utf8 "လ|ရက်|နာရီ|မိနစ်|စက္ကန့်|နံနက်/ညနေ" ∷
    utf8 "ဇန်|ဖေ|မတ်|ဧ|မေ|ဇွန်|ဇူ|ဩ|စက်|အောက်|နို|ဒီ" ∷
    utf8 "ဇန်နဝါရီ|ဖေဖော်ဝါရီ|မတ်|ဧပြီ|မေ|ဇွန်|ဇူလိုင်|ဩဂုတ်|စက်တင်ဘာ|အောက်တိုဘာ|နိုဝင်ဘာ|ဒီဇင်ဘာ" ∷
    utf8 "ဇ|ဖ|မ|ဧ|မ|ဇ|ဇ|ဩ|စ|အ|န|ဒ" ∷
    utf8 "တနင်္ဂနွေ|တနင်္လာ|အင်္ဂါ|ဗုဒ္ဓဟူး|ကြာသပတေး|သောကြာ|စနေ" ∷
    utf8 "တ|တ|အ|ဗ|က|သ|စ" ∷ utf8 "ဘီစီ|အဒေီ" ∷
    utf8 "ခရစ်တော် မပေါ်မီနှစ်|ခရစ်နှစ်" ∷
    utf8 "နံနက်|ညနေ" ∷ utf8 "2222222222223333444555551" ∷
    utf8 "|မွန်းတည့်|နံနက်|နေ့လယ်|ညနေ|ည||||" ∷
    utf8 "UTC|ညှိထားသည့် ကမ္ဘာ့ စံတော်ချိန်" ∷
    utf8 "\u{645}\u{627}\u{647}|\u{631}\u{648}\u{632}|\u{633}\u{627}\u{639}ِ\u{62a}|\u{62f}\u{642}\u{6cc}\u{642}\u{647}|\u{62b}\u{627}\u{646}\u{6cc}\u{647}|\u{635}\u{648}\u{627}\u{62d}\u{6cc}/\u{638}ُ\u{631}" ∷
    utf8 "\u{67e}.\u{645}|\u{645}." ∷
    utf8 "\u{642}\u{628}\u{644} \u{645}\u{6cc}\u{644}\u{627}\u{62f}|\u{628}\u{639}\u{62f} \u{645}\u{6cc}\u{644}\u{627}\u{62f}" ∷
    utf8 "ǁKhâb|Tsees|Iiri|Haib|ǀGâub|ǁgoas/ǃuis" ∷
    utf8 "ǃKhanni|ǃKhanǀgôab|ǀKhuuǁkhâb|ǃHôaǂkhaib|ǃKhaitsâb|Gamaǀaeb|ǂKhoesaob|Aoǁkhuumûǁkhâb|Taraǀkhuumûǁkhâb|ǂNûǁnâiseb|ǀHooǂgaeb|Hôasoreǁkhâb" ∷
    utf8 "Son|Ma|De|Wu|Do|Fr|Sat" ∷
    utf8 "Sontaxtsees|Mantaxtsees|Denstaxtsees|Wunstaxtsees|Dondertaxtsees|Fraitaxtsees|Satertaxtsees" ∷
    utf8 "S|M|E|W|D|F|A" ∷ utf8 "Xristub aiǃâ|Xristub khaoǃgâ" ∷ utf8 "ǁgoagas|ǃuias" ∷ utf8 "E 'kl'. HH:mm" ∷
    utf8 "E 'kl'. HH:mm:ss" ∷ utf8 "HH v" ∷ utf8 "måned|dag|time|minutt|sekund|a.m./p.m." ∷
    utf8 "jan.|feb.|mars|apr.|mai|juni|juli|aug.|sep.|okt.|nov.|des." ∷
    utf8 "januar|februar|mars|april|mai|juni|juli|august|september|oktober|november|desember" ∷
    utf8 "søn.|man.|tir.|ons.|tor.|fre.|lør." ∷ utf8 "før Kristus|etter Kristus" ∷ utf8 "555555222266333333444444" ∷
    utf8 "||morg.|etterm.|kveld|natt|form.|||" ∷
    utf8 "||på morgenen|på ettermiddagen|på kvelden|på natten|på formiddagen|||" ∷ utf8 "||mg.|em.|kv.|nt.|fm.|||" ∷
    utf8 "UTC|koordinert universaltid" ∷ utf8 "Inyangacale|Ilanga|Ihola|Umuzuzu|Isekendi|Dayperiod" ∷
    utf8 "Zib|Nhlo|Mbi|Mab|Nkw|Nhla|Ntu|Ncw|Mpan|Mfu|Lwe|Mpal" ∷
    utf8 "Zibandlela|Nhlolanja|Mbimbitho|Mabasa|Nkwenkwezi|Nhlangula|Ntulikazi|Ncwabakazi|Mpandula|Mfumfu|Lwezi|Mpalakazi" ∷
    utf8 "Z|N|M|M|N|N|N|N|M|M|L|M" ∷ utf8 "Son|Mvu|Sib|Sit|Sin|Sih|Mgq" ∷
    utf8 "Sonto|Mvulo|Sibili|Sithathu|Sine|Sihlanu|Mgqibelo" ∷ utf8 "S|M|S|S|S|S|M" ∷
    utf8 "UKristo angakabuyi|Ukristo ebuyile" ∷ utf8 "'Kl'. H.mm" ∷ utf8 "'Klock' H.mm:ss" ∷
    utf8 "'Klock' H.mm:ss v" ∷ utf8 "'Kl'. h.mm a" ∷ utf8 "'Klock' h.mm:ss a" ∷ utf8 "'Klock' h.mm:ss a v" ∷
    utf8 "Januaar|Februaar|März|April|Mai|Juni|Juli|August|September|Oktover|November|Dezember" ∷
    utf8 "Sünndag|Maandag|Dingsdag|Middeweken|Dunnersdag|Freedag|Sünnavend" ∷ utf8 "1: 0" ∷
    utf8 "महिना|बार|घण्टा|मिनेट|सेकेन्ड|पूर्वाह्न / अपराह्न" ∷
    utf8 "जनवरी|फेब्रुअरी|मार्च|अप्रिल|मे|जुन|जुलाई|अगस्ट|सेप्टेम्बर|अक्टोबर|नोभेम्बर|डिसेम्बर" ∷
    utf8 "जन|फेब|मार्च|अप्र|मे|जुन|जुल|अग|सेप|अक्टो|नोभे|डिसे" ∷
    utf8 "जन|फेेब|मार्च|अप्र|मे|जुन|जुल|अग|सेप|अक्टो|नोभे|डिसे" ∷
    utf8 "आइत|सोम|मङ्गल|बुध|बिहि|शुक्र|शनि" ∷
    utf8 "आइतबार|सोमबार|मङ्गलबार|बुधबार|बिहिबार|शुक्रबार|शनिबार" ∷
    utf8 "आ|सो|म|बु|बि|शु|श" ∷ utf8 "ईसा पूर्व|सन्" ∷
    utf8 "पूर्वाह्न|अपराह्न" ∷ utf8 "5555222222223333777444551" ∷
    utf8 "|मध्यान्ह|बिहान|अपरान्ह|बेलुकी|रात||साँझ||" ∷
    utf8 "UTC|समन्वित विश्व समय" ∷ utf8 "maand|dag|uur|minuut|seconde|a.m./p.m." ∷
    utf8 "jan|feb|mrt|apr|mei|jun|jul|aug|sep|okt|nov|dec" ∷
    utf8 "januari|februari|maart|april|mei|juni|juli|augustus|september|oktober|november|december" ∷
    utf8 "zo|ma|di|wo|do|vr|za" ∷
    []

unfoldable pub texts_24 : List Text
texts_24 =
    utf8 "zondag|maandag|dinsdag|woensdag|donderdag|vrijdag|zaterdag" ∷ utf8 "Z|M|D|W|D|V|Z" ∷ utf8 "v.Chr.|n.Chr." ∷
    utf8 "voor Christus|na Christus" ∷ utf8 "555555222222333333444444" ∷
    utf8 "||’s ochtends|’s middags|’s avonds|’s nachts||||" ∷ utf8 "UTC|gecoördineerde wereldtijd" ∷
    utf8 "Ngwɛn|Duö|Wulā|Mpálâ|Nyiɛl|Máná, Muó, Kugú, Bvul" ∷
    utf8 "ng1|ng2|ng3|ng4|ng5|ng6|ng7|ng8|ng9|ng10|ng11|kris" ∷
    utf8 "ngwɛn matáhra|ngwɛn ńmba|ngwɛn ńlal|ngwɛn ńna|ngwɛn ńtan|ngwɛn ńtuó|ngwɛn hɛmbuɛrí|ngwɛn lɔmbi|ngwɛn rɛbvuâ|ngwɛn wum|ngwɛn wum navǔr|krísimin" ∷
    utf8 "sɔ́n|mɔ́n|smb|sml|smn|mbs|sas" ∷
    utf8 "sɔ́ndɔ|mɔ́ndɔ|sɔ́ndɔ mafú mába|sɔ́ndɔ mafú málal|sɔ́ndɔ mafú mána|mabágá má sukul|sásadi" ∷
    utf8 "s|m|s|s|s|m|s" ∷ utf8 "BL|PB" ∷ utf8 "Bó Lahlɛ̄|Pfiɛ Burī" ∷ utf8 "maná|kugú" ∷
    utf8 "månad|dag|time|minutt|sekund|a.m./p.m." ∷ utf8 "sø.|må.|ty.|on.|to.|fr.|la." ∷
    utf8 "søndag|måndag|tysdag|onsdag|torsdag|fredag|laurdag" ∷ utf8 "søn|mån|tys|ons|tor|fre|lau" ∷
    utf8 "f.m.|e.m." ∷ utf8 "||på morgonen|på ettermiddagen|på kvelden|på natta|på formiddagen|||" ∷
    utf8 "EEEE , 'lyɛ'̌ʼ d 'na' MMMM, y" ∷ utf8 "'lyɛ'̌ʼ d 'na' MMMM, y" ∷
    utf8 "E , 'lyɛ'̌ʼ d 'na' M, y" ∷ utf8 "E , 'lyɛ'̌ʼ d 'na' MMM, y" ∷ utf8 "1,0" ∷
    utf8 "Month|lyɛ̌ʼ|fʉ̀ʼ nèm|Minute|Second|Dayperiod" ∷
    utf8 "saŋ tsetsɛ̀ɛ lùm|saŋ kàg ngwóŋ|saŋ lepyè shúm|saŋ cÿó|saŋ tsɛ̀ɛ cÿó|saŋ njÿoláʼ|saŋ tyɛ̀b tyɛ̀b mbʉ̀ŋ|saŋ mbʉ̀ŋ|saŋ ngwɔ̀ʼ mbÿɛ|saŋ tàŋa tsetsáʼ|saŋ mejwoŋó|saŋ lùm" ∷
    utf8 "lyɛʼɛ́ sẅíŋtè|mvfò lyɛ̌ʼ|mbɔ́ɔntè mvfò lyɛ̌ʼ|tsètsɛ̀ɛ lyɛ̌ʼ|mbɔ́ɔntè tsetsɛ̀ɛ lyɛ̌ʼ|mvfò màga lyɛ̌ʼ|màga lyɛ̌ʼ" ∷
    utf8 "m.z.Y.|m.g.n.Y." ∷ utf8 "mé zyé Yěsô|mé gÿo ńzyé Yěsô" ∷ utf8 "mbaʼámbaʼ|ncwònzém" ∷ utf8 "y / dd MMM" ∷
    utf8 "y / dd / MM" ∷
    utf8 "\u{7de}\u{7ca}\u{7d9}\u{7cf}|\u{7df}\u{7cf}߲|\u{7d5}\u{7ce}߬\u{7e1}\u{7ca}߬\u{7d9}\u{7cb}߲|\u{7e1}\u{7cc}߬\u{7db}\u{7cd}߲|\u{7dd}\u{7cc}߬\u{7df}\u{7ca}߲|\u{7db}/\u{7e5}" ∷
    utf8 "\u{7d3}\u{7cc}߲\u{7e0}|\u{7de}\u{7cf}߲\u{7de}|\u{7d5}\u{7d9}\u{7ca}|\u{7de}\u{7cf}߲\u{7d8}|\u{7d8}\u{7d3}\u{7ca}߬\u{7d5}|\u{7e5}\u{7ca}߬\u{7db}|\u{7de}\u{7ca}߬\u{7d9}|\u{7d8}\u{7d3}\u{7ca}߬\u{7d3}|\u{7d5}\u{7ce}\u{7df}\u{7ca}\u{7dd}\u{7cc}߲|\u{7de}\u{7cf}߲\u{7d3}|\u{7e3}\u{7cd}\u{7e3}|\u{7de}\u{7cf}\u{7df}" ∷
    utf8 "\u{7d3}\u{7cc}߲\u{7e0}\u{7ca}\u{7e5}\u{7ce}\u{7df}\u{7cb}߲|\u{7de}\u{7cf}߲\u{7de}\u{7cf}\u{7dc}\u{7cd}|\u{7d5}\u{7d9}\u{7ca}\u{7d3}\u{7ca}|\u{7de}\u{7cf}߲\u{7de}\u{7cf}\u{7d8}\u{7cc}߬\u{7d3}\u{7cc}|\u{7d8}\u{7d3}\u{7ca}߬\u{7d5}\u{7ca}|\u{7e5}\u{7ca}߬\u{7db}\u{7cc}߬\u{7e5}\u{7d9}\u{7ca}|\u{7de}\u{7ca}߬\u{7d9}\u{7cc}\u{7dd}\u{7d0}߭|\u{7d8}\u{7d3}\u{7ca}߬\u{7d3}\u{7cc}\u{7df}\u{7ca}|\u{7d5}\u{7ce}\u{7df}\u{7ca}\u{7dd}\u{7cc}߲|\u{7de}\u{7cf}߲\u{7d3}\u{7cc}\u{7d5}\u{7cc}߮|\u{7e3}\u{7cd}\u{7e3}\u{7cd}\u{7d3}\u{7ca}|\u{7de}\u{7cf}\u{7df}\u{7cc}߲\u{7de}\u{7cf}\u{7df}\u{7cc}߲" ∷
    utf8 "\u{7d3}|\u{7de}|\u{7d5}|\u{7de}|\u{7d8}|\u{7e5}|\u{7de}|\u{7d8}|\u{7d5}|\u{7de}|\u{7e3}|\u{7de}" ∷
    utf8 "\u{7de}\u{7ca}߯\u{7d9}|\u{7de}\u{7d0}߬\u{7d3}|\u{7de}\u{7d0}߬\u{7df}\u{7cf}߲|\u{7de}\u{7ce}\u{7e3}|\u{7d3}\u{7cc}\u{7df}|\u{7db}\u{7cc}߬\u{7e3}|\u{7de}\u{7cd}߲\u{7d8}" ∷
    utf8 "\u{7de}\u{7ca}߯\u{7d9}\u{7cc}\u{7df}\u{7cf}߲|\u{7de}\u{7d0}߬\u{7d3}\u{7ca}߬\u{7df}\u{7cf}߲|\u{7de}\u{7d0}߬\u{7df}\u{7cf}߲|\u{7de}\u{7ce}\u{7e3}\u{7ce}߲\u{7df}\u{7cf}߲|\u{7d3}\u{7cc}\u{7df}\u{7cf}߲|\u{7db}\u{7cc}߬\u{7e3}\u{7cc}߲߬\u{7df}\u{7cf}߲|\u{7de}\u{7cd}߲\u{7d8}\u{7cd}\u{7df}\u{7cf}߲" ∷
    utf8 "\u{7de}|\u{7de}|\u{7de}|\u{7de}|\u{7d3}|\u{7db}|\u{7de}" ∷
    utf8 "\u{7de}\u{7ca}߯\u{7d9}|\u{7de}\u{7d0}߬\u{7d3}|\u{7de}\u{7d0}߬\u{7df}|\u{7de}\u{7ce}\u{7e3}|\u{7d3}\u{7cc}\u{7df}|\u{7db}\u{7cc}߬\u{7e3}|\u{7de}\u{7cd}߲\u{7d8}" ∷
    utf8 "\u{7cc}\u{7db}. \u{7e1}. \u{7e2}\u{7cd}߫|\u{7cc}\u{7db}. \u{7e1}. \u{7de}\u{7d0}߫" ∷
    utf8 "\u{7cc}\u{7db}\u{7ca}߫ \u{7e1}\u{7cf}\u{7e6}\u{7cc} \u{7e2}\u{7cd}߫|\u{7cc}\u{7db}\u{7ca}߫ \u{7e1}\u{7cf}\u{7e6}\u{7cc} \u{7de}\u{7d0}߫" ∷
    utf8 "\u{7cc}\u{7db}. \u{7e2}\u{7cd}߫|\u{7cc}\u{7db}. \u{7de}\u{7d0}߫" ∷ utf8 "\u{7db}|\u{7e5}" ∷
    utf8 "\u{7dc}߭\u{7d5}\u{7d6}||+||-||:" ∷
    utf8 "UTC|\u{7d6}\u{7ca}߯\u{7d3}\u{7ca}߫ \u{7d5}\u{7ce}\u{7e1}\u{7d8}\u{7ca}߫ \u{7d8}\u{7cf}߲߬\u{7d6}\u{7df}\u{7ce}߬\u{7e1}\u{7ca}߬\u{7e3}\u{7cd}߲" ∷
    utf8 "1 'ka' 0" ∷ utf8 "Jan|Feb|Mat|Apo|Mei|Jun|Jul|Ago|Sep|Okt|Nof|Dis" ∷
    utf8 "Janeware|Febereware|Matšhe|Aporele|Mei|June|Julae|Agosetose|Setemere|Oktobore|Nofemere|Disemere" ∷
    utf8 "P|D|H|M|M|P|M|P|L|D|D|M" ∷ utf8 "Lam|Mos|Bed|Rar|Ne|Hla|Mok" ∷
    utf8 "Lamorena|Mošupologo|Labobedi|Laboraro|Labone|Labohlano|Mokibelo" ∷ utf8 "L|M|B|R|N|H|M" ∷ utf8 "E، d-M" ∷
    utf8 "d/MM/y" ∷ utf8 "Pay|Cäŋ|Thaak|Minit|Thɛkɛni|Dayperiod" ∷
    utf8 "Tiop|Pɛt|Duɔ̱ɔ̱|Guak|Duä|Kor|Pay|Thoo|Tɛɛ|Laa|Kur|Tid" ∷
    utf8 "Tiop thar pɛt|Pɛt|Duɔ̱ɔ̱ŋ|Guak|Duät|Kornyoot|Pay yie̱tni|Tho̱o̱r|Tɛɛr|Laath|Kur|Tio̱p in di̱i̱t" ∷
    utf8 "T|P|D|G|D|K|P|T|T|L|K|T" ∷ utf8 "Cäŋ|Jiec|Rɛw|Diɔ̱k|Ŋuaan|Dhieec|Bäkɛl" ∷
    utf8 "Cäŋ kuɔth|Jiec la̱t|Rɛw lätni|Diɔ̱k lätni|Ŋuaan lätni|Dhieec lätni|Bäkɛl lätni" ∷
    utf8 "C|J|R|D|Ŋ|D|B" ∷ utf8 "AY|ƐY" ∷ utf8 "A ka̱n Yecu ni dap|Ɛ ca Yecu dap" ∷ utf8 "RW|TŊ" ∷
    utf8 "HH'h'mm" ∷ utf8 "HH'h'mm ss 'seg'." ∷ utf8 "HH'h'mm ss 'seg'. v" ∷ utf8 "h'h'mm a" ∷ utf8 "h'h'mm:ss a" ∷
    utf8 "de genièr|de febrièr|de març|d’abril|de mai|de junh|de julhet|d’agost|de setembre|d’octòbre|de novembre|de decembre" ∷
    utf8 "dimenge|diluns|dimars|dimècres|dijòus|divendres|dissabte" ∷ utf8 "MMMM dd" ∷ utf8 "1 0 'tti'" ∷
    utf8 "ji’a|guyyaa|sa’aatii|daqiiqaa|sekoondii|WD/WB" ∷
    utf8 "Ama|Gur|Bitootessa|Elb|Cam|Wax|Ado|Hag|Ful|Onk|Sadaasa|Mud" ∷
    utf8 "Amajjii|Guraandhala|Bitootessa|Eebila|Caamsaa|Waxabajjii|Adoolessa|Hagayya|Fulbaana|Onkoloolessa|Sadaasa|Mudde" ∷
    utf8 "A|G|B|E|C|W|A|H|F|O|S|M" ∷ utf8 "Dil|Wix|Kib|Rob|Kam|Jim|San" ∷
    utf8 "Dilbata|Wiixata|Kibxata|Roobii|Kamisa|Jimaata|Sanbata" ∷ utf8 "D|W|K|R|K|J|S" ∷ utf8 "DhKD|BA" ∷
    utf8 "Dhaloota Kiristoos Dura|Bara Araaraa" ∷ utf8 "Dh|B" ∷ utf8 "WD|WB" ∷
    utf8 "UTC|Sa’aatii Idil-Addunyaa Qindaa’e" ∷ utf8 "G dd-MM-y, E" ∷ utf8 "0 ଠାରେ 1" ∷
    utf8 "ମାସ|ଦିନ|ଘଣ୍ଟା|ମିନିଟ୍|ସେକେଣ୍ଡ୍|AM/PM" ∷
    utf8 "ଜାନୁଆରୀ|ଫେବୃଆରୀ|ମାର୍ଚ୍ଚ|ଅପ୍ରେଲ|ମଇ|ଜୁନ|ଜୁଲାଇ|ଅଗଷ୍ଟ|ସେପ୍ଟେମ୍ବର|ଅକ୍ଟୋବର|ନଭେମ୍ବର|ଡିସେମ୍ବର" ∷
    utf8 "ଜା|ଫେ|ମା|ଅ|ମଇ|ଜୁ|ଜୁ|ଅ|ସେ|ଅ|ନ|ଡି" ∷
    utf8 "ରବି|ସୋମ|ମଙ୍ଗଳ|ବୁଧ|ଗୁରୁ|ଶୁକ୍ର|ଶନି" ∷
    utf8 "ରବିବାର|ସୋମବାର|ମଙ୍ଗଳବାର|ବୁଧବାର|ଗୁରୁବାର|ଶୁକ୍ରବାର|ଶନିବାର" ∷
    utf8 "ର|ସୋ|ମ|ବୁ|ଗୁ|ଶୁ|ଶ" ∷
    utf8 "ଖ୍ରୀଷ୍ଟପୂର୍ବ|ଖ୍ରୀଷ୍ଟାବ୍ଦ" ∷
    utf8 "UTC|ସମନ୍ୱିତ ସାର୍ବଜନୀନ ସମୟ" ∷ utf8 "ccc, d MMM" ∷
    utf8 "EEEE, d MMMM, y 'аз'" ∷ utf8 "d MMMM, y 'аз'" ∷ utf8 "dd MMM y 'аз'" ∷
    utf8 "Мӕй|Бон|Сахат|Минут|Секунд|Боны период" ∷
    utf8 "янв.|фев.|мар.|апр.|майы|июны|июлы|авг.|сен.|окт.|ноя.|дек." ∷
    utf8 "январы|февралы|мартъийы|апрелы|майы|июны|июлы|августы|сентябры|октябры|ноябры|декабры" ∷
    utf8 "Янв.|Февр.|Март.|Апр.|Май|Июнь|Июль|Авг.|Сент.|Окт.|Нояб.|Дек." ∷
    utf8 "Январь|Февраль|Мартъи|Апрель|Май|Июнь|Июль|Август|Сентябрь|Октябрь|Ноябрь|Декабрь" ∷
    utf8 "хцб|крс|дцг|ӕрт|цпр|мрб|сбт" ∷ utf8 "хуыцаубон|къуырисӕр|дыццӕг|ӕртыццӕг|цыппӕрӕм|майрӕмбон|сабат" ∷
    utf8 "Х|К|Д|Ӕ|Ц|М|С" ∷ utf8 "Хцб|Крс|Дцг|Ӕрт|Цпр|Мрб|Сбт" ∷
    utf8 "Хуыцаубон|Къуырисӕр|Дыццӕг|Ӕртыццӕг|Цыппӕрӕм|Майрӕмбон|Сабат" ∷ utf8 "н.д.а.|н.д." ∷
    utf8 "ӕмбисбоны размӕ|ӕмбисбоны фӕстӕ" ∷ utf8 "E d MMM, G y" ∷ utf8 "E, dd-MM." ∷
    utf8 "ਮਹੀਨਾ|ਦਿਨ|ਘੰਟਾ|ਮਿੰਟ|ਸਕਿੰਟ|AM/PM" ∷
    utf8 "ਜਨ|ਫ਼ਰ|ਮਾਰਚ|ਅਪ੍ਰੈ|ਮਈ|ਜੂਨ|ਜੁਲਾ|ਅਗ|ਸਤੰ|ਅਕਤੂ|ਨਵੰ|ਦਸੰ" ∷
    utf8 "ਜਨਵਰੀ|ਫ਼ਰਵਰੀ|ਮਾਰਚ|ਅਪ੍ਰੈਲ|ਮਈ|ਜੂਨ|ਜੁਲਾਈ|ਅਗਸਤ|ਸਤੰਬਰ|ਅਕਤੂਬਰ|ਨਵੰਬਰ|ਦਸੰਬਰ" ∷
    []

unfoldable pub texts_25 : List Text
texts_25 =
    utf8 "ਜ|ਫ਼|ਮਾ|ਅ|ਮ|ਜੂ|ਜੁ|ਅ|ਸ|ਅ|ਨ|ਦ" ∷
    utf8 "ਐਤ|ਸੋਮ|ਮੰਗਲ|ਬੁੱਧ|ਵੀਰ|ਸ਼ੁੱਕਰ|ਸ਼ਨੀ" ∷
    utf8 "ਐਤਵਾਰ|ਸੋਮਵਾਰ|ਮੰਗਲਵਾਰ|ਬੁੱਧਵਾਰ|ਵੀਰਵਾਰ|ਸ਼ੁੱਕਰਵਾਰ|ਸ਼ਨੀਵਾਰ" ∷
    utf8 "ਐ|ਸੋ|ਮੰ|ਬੁੱ|ਵੀ|ਸ਼ੁੱ|ਸ਼" ∷
    utf8 "ਈ. ਪੂ.|ਸੰਨ" ∷ utf8 "ਈਸਵੀ ਪੂਰਵ|ਈਸਵੀ ਸੰਨ" ∷
    utf8 "ਈ.ਪੂ.|ਸੰਨ" ∷ utf8 "555522222222333344444555" ∷
    utf8 "||ਸਵੇਰੇ|ਦੁਪਹਿਰੇ|ਸ਼ਾਮੀਂ|ਰਾਤੀਂ||||" ∷
    utf8 "UTC|ਕੋਔਰਡੀਨੇਟੇਡ ਵਿਆਪਕ ਵੇਲਾ" ∷ utf8 "d /M" ∷ utf8 "1 'fọ' 0" ∷
    utf8 "Mọnt|Dè|Awa|Mínit|Sẹ́kọn|fọ mọ́nin fọ áftanun fọ ívnin fọ nait" ∷
    utf8 "Jén|Fẹ́b|Mach|Épr|Mee|Jun|Jul|Ọgọ|Sẹp|Ọkt|Nọv|Dis" ∷
    utf8 "Jénúári|Fẹ́búári|Mach|Éprel|Mee|Jun|Julai|Ọgọst|Sẹptẹ́mba|Ọktóba|Nọvẹ́mba|Disẹ́mba" ∷
    utf8 "Jén|Fẹ́b|Mach|Épr|Mee|Jun|Jul|Ọ́gọ|Sẹp|Ọkt|Nọv|Dis" ∷
    utf8 "Sọ́n|Mọ́n|Tiú|Wẹ́n|Tọ́z|Fraí|Sát" ∷
    utf8 "Sọ́ndè|Mọ́ndè|Tiúzdè|Wẹ́nẹ́zdè|Tọ́zdè|Fraídè|Sátọdè" ∷ utf8 "BK|KIY" ∷
    utf8 "Bifọ́ Kraist|Kraist Im Yiẹ" ∷ utf8 "FM|FI" ∷ utf8 "Fọ mọ́nin|Fọ ívnin" ∷
    utf8 "UTC|Arénjmẹnt ọf Di Hól Wọld Taim" ∷ utf8 "E, d.MM.y G" ∷ utf8 "E, d MMMM y G" ∷ utf8 "d MMMM y G" ∷
    utf8 "d.MM.y" ∷ utf8 "E, d.MM.y" ∷ utf8 "E, d MMMM y" ∷
    utf8 "miesiąc|dzień|godzina|minuta|sekunda|rano / po południu / wieczorem" ∷
    utf8 "sty|lut|mar|kwi|maj|cze|lip|sie|wrz|paź|lis|gru" ∷
    utf8 "stycznia|lutego|marca|kwietnia|maja|czerwca|lipca|sierpnia|września|października|listopada|grudnia" ∷
    utf8 "s|l|m|k|m|c|l|s|w|p|l|g" ∷
    utf8 "styczeń|luty|marzec|kwiecień|maj|czerwiec|lipiec|sierpień|wrzesień|październik|listopad|grudzień" ∷
    utf8 "S|L|M|K|M|C|L|S|W|P|L|G" ∷ utf8 "niedz.|pon.|wt.|śr.|czw.|pt.|sob." ∷
    utf8 "niedziela|poniedziałek|wtorek|środa|czwartek|piątek|sobota" ∷ utf8 "n|p|w|ś|c|p|s" ∷ utf8 "N|P|W|Ś|C|P|S" ∷
    utf8 "p.n.e.|n.e." ∷ utf8 "przed naszą erą|naszej ery" ∷ utf8 "5555552222663333334445551" ∷
    utf8 "|w południe|rano|po południu|wieczorem|w nocy|przed południem|||" ∷
    utf8 "|w poł.|rano|po poł.|wiecz.|w nocy|przed poł.|||" ∷ utf8 "UTC|uniwersalny czas koordynowany" ∷
    utf8 "gené|fërvé|mars|avril|magg|giugn|lugn|agost|stèmber|utuber|novèmber|dzèmber" ∷
    utf8 "dumìnica|lun-es|màrtes|merco|giòbia|vënner|saba" ∷ utf8 "h:mm:ss a; v" ∷ utf8 "dd.MM 'st'. y" ∷
    utf8 "rags|wassarins|pūlis|sakkis|zallaws|sīmenis|līpa|daggis|sillins|spallins|lapkrūtis|sallaws" ∷
    utf8 "nadīli|panadīli|wisasīdis|pussisawaiti|ketwirtiks|pēntniks|sabattika" ∷ utf8 "ankstāinan|pa pussideinan" ∷
    utf8 "EEEE \u{62f} y \u{62f} MMMM d" ∷ utf8 "1 \u{67e}\u{647} 0" ∷
    utf8 "\u{645}\u{64a}\u{627}\u{634}\u{62a}|\u{648}\u{631}\u{681}|\u{633}\u{627}\u{639}\u{62a}|\u{62f}\u{642}\u{64a}\u{642}\u{647}|\u{62b}\u{627}\u{646}\u{64a}\u{647}|\u{648}\u{631}\u{681} \u{634}\u{6d0}\u{628}\u{647}" ∷
    utf8 "\u{62c}\u{646}\u{648}\u{631}\u{64a}|\u{641}\u{628}\u{631}\u{648}\u{631}\u{64a}|\u{645}\u{627}\u{631}\u{686}|\u{627}\u{67e}\u{631}\u{6cc}\u{644}|\u{645}\u{6cd}|\u{62c}\u{648}\u{646}|\u{62c}\u{648}\u{644}\u{627}\u{6cc}|\u{627}\u{6ab}\u{633}\u{62a}|\u{633}\u{6d0}\u{67e}\u{62a}\u{645}\u{628}\u{631}|\u{627}\u{6a9}\u{62a}\u{648}\u{628}\u{631}|\u{646}\u{648}\u{645}\u{628}\u{631}|\u{62f}\u{633}\u{645}\u{628}\u{631}" ∷
    utf8 "\u{62c}|\u{641}|\u{645}|\u{627}|\u{645}|\u{62c}|\u{62c}|\u{627}|\u{633}|\u{627}|\u{646}|\u{62f}" ∷
    utf8 "\u{62c}\u{646}\u{648}\u{631}\u{64a}|\u{641}\u{628}\u{631}\u{648}\u{631}\u{64a}|\u{645}\u{627}\u{631}\u{686}|\u{627}\u{67e}\u{631}\u{6cc}\u{644}|\u{645}\u{6cd}|\u{62c}\u{648}\u{646}|\u{62c}\u{648}\u{644}\u{627}\u{6cc}|\u{627}\u{6ab}\u{633}\u{62a}|\u{633}\u{67e}\u{62a}\u{645}\u{628}\u{631}|\u{627}\u{6a9}\u{62a}\u{648}\u{628}\u{631}|\u{646}\u{648}\u{645}\u{628}\u{631}|\u{62f}\u{633}\u{645}\u{628}\u{631}" ∷
    utf8 "\u{62c}\u{646}\u{648}\u{631}\u{64a}|\u{641}\u{6d0}\u{628}\u{631}\u{648}\u{631}\u{64a}|\u{645}\u{627}\u{631}\u{686}|\u{627}\u{67e}\u{631}\u{6cc}\u{644}|\u{645}\u{6cd}|\u{62c}\u{648}\u{646}|\u{62c}\u{648}\u{644}\u{627}\u{6cc}|\u{627}\u{6ab}\u{633}\u{62a}|\u{633}\u{67e}\u{62a}\u{645}\u{628}\u{631}|\u{627}\u{6a9}\u{62a}\u{648}\u{628}\u{631}|\u{646}\u{648}\u{645}\u{628}\u{631}|\u{62f}\u{633}\u{645}\u{628}\u{631}" ∷
    utf8 "\u{62c}|\u{641}|3|4|5|6|7|8|9|10|11|12" ∷
    utf8 "\u{64a}\u{648}\u{646}\u{6cd}|\u{62f}\u{648}\u{646}\u{6cd}|\u{62f}\u{631}\u{6d0}\u{646}\u{6cd}|\u{685}\u{644}\u{631}\u{646}\u{6cd}|\u{67e}\u{64a}\u{646}\u{681}\u{646}\u{6cd}|\u{62c}\u{645}\u{639}\u{647}|\u{627}\u{648}\u{646}\u{6cd}" ∷
    utf8 "\u{644}\u{647} \u{645}\u{6cc}\u{644}\u{627}\u{62f} \u{648}\u{693}\u{627}\u{646}\u{62f}\u{6d0}|\u{645}." ∷
    utf8 "\u{644}\u{647} \u{645}\u{6cc}\u{644}\u{627}\u{62f} \u{685}\u{62e}\u{647} \u{648}\u{693}\u{627}\u{646}\u{62f}\u{6d0}|\u{644}\u{647} \u{645}\u{6cc}\u{644}\u{627}\u{62f} \u{685}\u{62e}\u{647} \u{648}\u{631}\u{648}\u{633}\u{62a}\u{647}" ∷
    utf8 "\u{63a}.\u{645}.|\u{63a}.\u{648}." ∷
    utf8 "UTC|\u{647}\u{645}\u{63a}\u{696}\u{649} \u{646}\u{693}\u{6cc}\u{648}\u{627}\u{644} \u{648}\u{62e}\u{62a}" ∷
    utf8 "E, MM/dd/y G" ∷ utf8 "HH'h', v" ∷ utf8 "E, d 'de' MMMM 'de' y" ∷ utf8 "1 'às' 0" ∷
    utf8 "mês|dia|hora|minuto|segundo|AM/PM" ∷ utf8 "jan.|fev.|mar.|abr.|mai.|jun.|jul.|ago.|set.|out.|nov.|dez." ∷
    utf8 "janeiro|fevereiro|março|abril|maio|junho|julho|agosto|setembro|outubro|novembro|dezembro" ∷
    utf8 "dom.|seg.|ter.|qua.|qui.|sex.|sáb." ∷
    utf8 "domingo|segunda-feira|terça-feira|quarta-feira|quinta-feira|sexta-feira|sábado" ∷ utf8 "D|S|T|Q|Q|S|S" ∷
    utf8 "antes de Cristo|depois de Cristo" ∷ utf8 "|meio-dia|da manhã|da tarde|da noite|da madrugada||||" ∷
    utf8 "UTC|Horário Universal Coordenado" ∷ utf8 "killa|punchaw|ura|minutu|segundu|a. m. / p. m." ∷
    utf8 "Ene|Feb|Mar|Abr|May|Jun|Jul|Ago|Set|Oct|Nov|Dic" ∷
    utf8 "Enero|Febrero|Marzo|Abril|Mayo|Junio|Julio|Agosto|Setiembre|Octubre|Noviembre|Diciembre" ∷
    utf8 "Dom|Lun|Mar|Mié|Jue|Vie|Sab" ∷ utf8 "Domingo|Lunes|Martes|Miércoles|Jueves|Viernes|Sábado" ∷
    utf8 "a.d.|d.C." ∷ utf8 "ñawpa cristu|chanta cristu" ∷ utf8 "a.d.|dC" ∷
    utf8 "UTC|Tiqsimuyuntin Tupachisqa Hora" ∷ utf8 "सबेरे|सांम" ∷
    utf8 "EEEE, 'ils' d MMMM y" ∷ utf8 "LL-y" ∷ utf8 "E, d-M-y" ∷ utf8 "mais|di|ura|minuta|secunda|AM/PM" ∷
    utf8 "schan.|favr.|mars|avr.|matg|zercl.|fan.|avust|sett.|oct.|nov.|dec." ∷
    utf8 "da schaner|da favrer|da mars|d’avrigl|da matg|da zercladur|da fanadur|d’avust|da settember|d’october|da november|da december" ∷
    utf8 "S|F|M|A|M|Z|F|A|S|O|N|D" ∷
    utf8 "schaner|favrer|mars|avrigl|matg|zercladur|fanadur|avust|settember|october|november|december" ∷
    utf8 "du|gli|ma|me|gie|ve|so" ∷ utf8 "dumengia|glindesdi|mardi|mesemna|gievgia|venderdi|sonda" ∷
    utf8 "D|G|M|M|G|V|S" ∷ utf8 "a.Cr.|s.C." ∷ utf8 "avant Cristus|suenter Cristus" ∷
    utf8 "UTC|temp universal coordinà" ∷ utf8 "Ukwezi|Umusi|Isaha|Umunota|Isegonda|M.s/N.s" ∷
    utf8 "Mut.|Gas.|Wer.|Mat.|Gic.|Kam.|Nya.|Kan.|Nze.|Ukw.|Ugu.|Uku." ∷
    utf8 "Nzero|Ruhuhuma|Ntwarante|Ndamukiza|Rusama|Ruheshi|Mukakaro|Nyandagaro|Nyakanga|Gitugutu|Munyonyo|Kigarama" ∷
    utf8 "cu.|mbe.|kab.|gtu.|kan.|gnu.|gnd." ∷
    utf8 "Ku w’indwi|Ku wa mbere|Ku wa kabiri|Ku wa gatatu|Ku wa kane|Ku wa gatanu|Ku wa gatandatu" ∷
    utf8 "Mb.Y.|Ny.Y" ∷ utf8 "Mbere ya Yezu|Nyuma ya Yezu" ∷ utf8 "Z.MU.|Z.MW." ∷ utf8 "5555522222223333334444551" ∷
    utf8 "|amiază|dimineața|după-amiaza|seara|noaptea||||" ∷
    utf8 "|la amiază|dimineața|după-amiaza|seara|noaptea||||" ∷ utf8 "Mweri|Mfiri|Isaa|Dakika|Sekunde|Nkwaya" ∷
    utf8 "M1|M2|M3|M4|M5|M6|M7|M8|M9|M10|M11|M12" ∷
    utf8 "Mweri wa kwanza|Mweri wa kaili|Mweri wa katatu|Mweri wa kaana|Mweri wa tanu|Mweri wa sita|Mweri wa saba|Mweri wa nane|Mweri wa tisa|Mweri wa ikumi|Mweri wa ikumi na moja|Mweri wa ikumi na mbili" ∷
    utf8 "K|K|K|K|T|S|S|N|T|I|I|I" ∷ utf8 "Ijp|Ijt|Ijn|Ijtn|Alh|Iju|Ijm" ∷
    utf8 "Ijumapili|Ijumatatu|Ijumanne|Ijumatano|Alhamisi|Ijumaa|Ijumamosi" ∷
    utf8 "Kabla ya Mayesu|Baada ya Mayesu" ∷
    []

unfoldable pub texts_26 : List Text
texts_26 =
    utf8 "kang’ama|kingoto" ∷ utf8 "ccc, h:mm B" ∷ utf8 "ccc, h:mm:ss B" ∷ utf8 "ccc, d" ∷ utf8 "MM.y GGGGG" ∷
    utf8 "E, dd.MM.y GGGGG" ∷ utf8 "ccc, dd.MM.y" ∷ utf8 "LLL y 'г'." ∷ utf8 "LLLL y 'г'." ∷
    utf8 "месяц|день|час|минута|секунда|AM/PM" ∷
    utf8 "янв.|февр.|мар.|апр.|мая|июн.|июл.|авг.|сент.|окт.|нояб.|дек." ∷
    utf8 "января|февраля|марта|апреля|мая|июня|июля|августа|сентября|октября|ноября|декабря" ∷
    utf8 "янв.|февр.|март|апр.|май|июнь|июль|авг.|сент.|окт.|нояб.|дек." ∷ utf8 "вс|пн|вт|ср|чт|пт|сб" ∷
    utf8 "воскресенье|понедельник|вторник|среда|четверг|пятница|суббота" ∷ utf8 "В|П|В|С|Ч|П|С" ∷
    utf8 "до н. э.|н. э." ∷ utf8 "до Рождества Христова|от Рождества Христова" ∷ utf8 "до н.э.|н.э." ∷
    utf8 "5555222222223333334444551" ∷ utf8 "|полд.|утра|дня|вечера|ночи||||" ∷
    utf8 "|полдень|утра|дня|вечера|ночи||||" ∷ utf8 "|полд.|утра|дня|веч.|ночи||||" ∷
    utf8 "UTC|Всемирное координированное время" ∷
    utf8 "Mutarama|Gashyantare|Werurwe|Mata|Gicurasi|Kamena|Nyakanga|Kanama|Nzeri|Ukwakira|Ugushyingo|Ukuboza" ∷
    utf8 "Cyu.|Mbe.|Kab.|Gtu.|Kan.|Gnu.|Gnd." ∷
    utf8 "Ku cyumweru|Kuwa mbere|Kuwa kabiri|Kuwa gatatu|Kuwa kane|Kuwa gatanu|Kuwa gatandatu" ∷
    utf8 "1 तदा 0" ∷
    utf8 "मास:|वासर:|होरा|निमेष|क्षण|पूर्वाह्न/अपराह्न" ∷
    utf8 "जनवरी:|फरवरी:|मार्च:|अप्रैल:|मई|जून:|जुलाई:|अगस्त:|सितंबर:|अक्तूबर:|नवंबर:|दिसंबर:" ∷
    utf8 "जनवरीमासः|फरवरीमासः|मार्चमासः|अप्रैलमासः|मईमासः|जूनमासः|जुलाईमासः|अगस्तमासः|सितंबरमासः|अक्तूबरमासः|नवंबरमासः|दिसंबरमासः" ∷
    utf8 "रविवासरः|सोमवासरः|मंगलवासरः|बुधवासरः|गुरुवासर:|शुक्रवासरः|शनिवासरः" ∷
    utf8 "जी.एम.टी. ||+||-||:" ∷ utf8 "UTC|समन्वितः वैश्विक समय:" ∷
    utf8 "y 'с'. G" ∷ utf8 "y 'сыл' MMMM d 'күнэ', EEEE" ∷ utf8 "y, MMMM d" ∷ utf8 "y, MMM d" ∷
    utf8 "Ый|Күн|Чаас|Мүнүүтэ|Сөкүүндэ|ЭИ/ЭК" ∷ utf8 "Тохс|Олун|Клн|Мсу|Ыам|Бэс|Отй|Атр|Блҕ|Алт|Сэт|Ахс" ∷
    utf8 "Тохсунньу|Олунньу|Кулун тутар|Муус устар|Ыам ыйын|Бэс ыйын|От ыйын|Атырдьых ыйын|Балаҕан ыйын|Алтынньы|Сэтинньи|ахсынньы" ∷
    utf8 "Т|О|К|М|Ы|Б|О|А|Б|А|С|А" ∷
    utf8 "тохсунньу|олунньу|кулун тутар|муус устар|ыам ыйа|бэс ыйа|от ыйа|атырдьых ыйа|балаҕан ыйа|алтынньы|сэтинньи|ахсынньы" ∷
    utf8 "бс|бн|оп|сэ|чп|бэ|сб" ∷ utf8 "баскыһыанньа|бэнидиэнньик|оптуорунньук|сэрэдэ|чэппиэр|Бээтиҥсэ|субуота" ∷
    utf8 "Б|Б|О|С|Ч|Б|С" ∷ utf8 "б. э. и.|б. э" ∷ utf8 "ЭИ|ЭК" ∷ utf8 "Lapa|Mpari|Saai|Idakika|Isekondi|TS/TP" ∷
    utf8 "Obo|Waa|Oku|Ong|Ime|Ile|Sap|Isi|Saa|Tom|Tob|Tow" ∷
    utf8 "Lapa le obo|Lapa le waare|Lapa le okuni|Lapa le ong’wan|Lapa le imet|Lapa le ile|Lapa le sapa|Lapa le isiet|Lapa le saal|Lapa le tomon|Lapa le tomon obo|Lapa le tomon waare" ∷
    utf8 "O|W|O|O|I|I|S|I|S|T|T|T" ∷ utf8 "Are|Kun|Ong|Ine|Ile|Sap|Kwe" ∷
    utf8 "Mderot ee are|Mderot ee kuni|Mderot ee ong’wan|Mderot ee inet|Mderot ee ile|Mderot ee sapa|Mderot ee kwe" ∷
    utf8 "A|K|O|I|I|S|K" ∷ utf8 "Kabla ya Christo|Baada ya Christo" ∷ utf8 "Tesiran|Teipa" ∷
    utf8 "ᱪᱟᱸᱫᱚ|ᱢᱟᱦᱟ|ᱴᱟᱲᱟᱝ|ᱴᱤᱯᱤᱡ|ᱴᱤᱨᱤᱡ|ᱥᱮᱛᱟᱜ/ᱟᱹᱭᱩᱵ" ∷ utf8 "ᱡᱟᱱ|ᱯᱷᱟ|ᱢᱟᱨ|ᱟᱯᱨ|ᱢᱮ|ᱡᱩᱱ|ᱡᱩᱞ|ᱟᱜᱟ|ᱥᱮᱯ|ᱚᱠᱴ|ᱱᱟᱣ|ᱫᱤᱥ" ∷
    utf8 "ᱡᱟᱱᱣᱟᱨᱤ|ᱯᱷᱟᱨᱣᱟᱨᱤ|ᱢᱟᱨᱪ|ᱟᱯᱨᱮᱞ|ᱢᱮ|ᱡᱩᱱ|ᱡᱩᱞᱟᱭ|ᱟᱜᱟᱥᱛ|ᱥᱮᱯᱴᱮᱢᱵᱟᱨ|ᱚᱠᱴᱚᱵᱟᱨ|ᱱᱟᱣᱟᱢᱵᱟᱨ|ᱫᱤᱥᱟᱢᱵᱟᱨ" ∷
    utf8 "ᱡ|ᱯ|ᱢ|ᱟ|ᱢ|ᱡ|ᱡ|ᱟ|ᱥ|ᱚ|ᱱ|ᱫ" ∷ utf8 "ᱥᱤᱸ|ᱚᱛ|ᱵᱟ|ᱥᱟᱹ|ᱥᱟᱹᱨ|ᱡᱟᱹ|ᱧᱩ" ∷
    utf8 "ᱥᱤᱸᱜᱮ|ᱚᱛᱮ|ᱵᱟᱞᱮ|ᱥᱟᱹᱜᱩᱱ|ᱥᱟᱹᱨᱫᱤ|ᱡᱟᱹᱨᱩᱢ|ᱧᱩᱦᱩᱢ" ∷ utf8 "ᱥ|ᱚ|ᱵ|ᱥ|ᱥ|ᱡ|ᱧ" ∷ utf8 "ᱵᱤ ᱥᱤ|ᱤᱥᱣᱤ" ∷
    utf8 "ᱥᱮᱛᱟᱜ|ᱧᱤᱫᱟᱹ" ∷ utf8 "ᱡᱤᱮᱢᱴᱤ||+||-||:" ∷ utf8 "UTC|ᱠᱚᱨᱰᱤᱱᱮᱴᱮᱰ ᱭᱩᱱᱤᱣᱟᱨᱥᱟᱞ ᱚᱠᱛᱚ" ∷
    utf8 "Mwesi|Lusiku|Ilisala|Idakika|Isekunde|Uluhaavi lwa lusiku" ∷
    utf8 "Mup|Mwi|Msh|Mun|Mag|Muj|Msp|Mpg|Mye|Mok|Mus|Muh" ∷
    utf8 "Mupalangulwa|Mwitope|Mushende|Munyi|Mushende Magali|Mujimbi|Mushipepo|Mupuguto|Munyense|Mokhu|Musongandembwe|Muhaano" ∷
    utf8 "Mul|Jtt|Jnn|Jtn|Alh|Iju|Jmo" ∷ utf8 "Mulungu|Jumatatu|Jumanne|Jumatano|Alahamisi|Ijumaa|Jumamosi" ∷
    utf8 "M|J|J|J|A|I|J" ∷ utf8 "AK|PK" ∷ utf8 "Ashanali uKilisito|Pamwandi ya Kilisto" ∷
    utf8 "Lwamilawu|Pashamihe" ∷ utf8 "E d 'de' MMM 'de' 'su' y G" ∷ utf8 "d 'de' MMM 'de' 'su' y G" ∷
    utf8 "E d 'de' MMM" ∷ utf8 "EEEE d 'de' MMMM 'de' 'su' y" ∷ utf8 "d 'de' MMMM 'de' 'su' y" ∷
    utf8 "d 'de' MMM y" ∷ utf8 "E d 'de' MMM y" ∷ utf8 "MMMM 'de' 'su' y" ∷ utf8 "1 'a' 'sas' 0" ∷
    utf8 "mese|die|ora|minutu|segundu|AM/PM" ∷ utf8 "ghe|fre|mar|abr|maj|làm|trì|aus|cab|stG|stA|nad" ∷
    utf8 "ghennàrgiu|freàrgiu|martzu|abrile|maju|làmpadas|trìulas|austu|cabudanni|santugaine|santandria|nadale" ∷
    utf8 "G|F|M|A|M|L|T|A|C|S|S|N" ∷ utf8 "dom|lun|mar|mèr|giò|che|sàb" ∷
    utf8 "domìniga|lunis|martis|mèrcuris|giòbia|chenàbura|sàbadu" ∷ utf8 "D|L|M|M|G|C|S" ∷ utf8 "a.C.|p.C." ∷
    utf8 "in antis de Cristu|a pustis de Cristu" ∷ utf8 "m.|b." ∷ utf8 "TCU|Tempus coordinadu universale" ∷
    utf8 "1 'a' 'l'’'uri' 0" ∷ utf8 "1 'ê' 0" ∷ utf8 "misi|jornu|ura|minutu|sicunnu|AM/PM" ∷
    utf8 "jin|fri|mar|apr|maj|giu|gnt|agu|sit|utt|nuv|dic" ∷
    utf8 "jinnaru|frivaru|marzu|aprili|maju|giugnu|giugnettu|agustu|sittèmmiru|uttùviru|nuvèmmiru|dicèmmiru" ∷
    utf8 "J|F|M|A|M|G|G|A|S|U|N|D" ∷ utf8 "dum|lun|mar|mer|jov|ven|sab" ∷
    utf8 "dumìnica|lunnidìa|martidìa|mercuridìa|jovidìa|venniridìa|sàbbatu" ∷ utf8 "p.C.|d.C." ∷
    utf8 "prima di Cristu|doppu di Cristu" ∷ utf8 "pC|dC" ∷ utf8 "UTC|Ura Curdinata Univirsali" ∷
    utf8 "\u{645}\u{647}\u{64a}\u{646}\u{648}|\u{68f}\u{64a}\u{646}\u{647}\u{646}|\u{6aa}\u{644}\u{627}\u{6aa}|\u{645}\u{646}\u{67d}|\u{633}\u{64a}\u{6aa}\u{646}\u{68a}|\u{635}\u{628}\u{62d}/\u{634}\u{627}\u{645}" ∷
    utf8 "\u{62c}\u{646}\u{648}\u{631}\u{64a}|\u{641}\u{64a}\u{628}\u{631}\u{648}\u{631}\u{64a}|\u{645}\u{627}\u{631}\u{686}|\u{627}\u{67e}\u{631}\u{64a}\u{644}|\u{645}\u{626}\u{64a}|\u{62c}\u{648}\u{646}|\u{62c}\u{648}\u{644}\u{627}\u{621}ِ|\u{622}\u{6af}\u{633}\u{67d}|\u{633}\u{64a}\u{67e}\u{67d}\u{645}\u{628}\u{631}|\u{622}\u{6aa}\u{67d}\u{648}\u{628}\u{631}|\u{646}\u{648}\u{645}\u{628}\u{631}|\u{68a}\u{633}\u{645}\u{628}\u{631}" ∷
    utf8 "\u{622}\u{686}\u{631}|\u{633}\u{648}\u{645}\u{631}|\u{627}\u{6b1}\u{627}\u{631}\u{648}|\u{627}\u{631}\u{628}\u{639}|\u{62e}\u{645}\u{64a}\u{633}|\u{62c}\u{645}\u{639}\u{648}|\u{687}\u{646}\u{687}\u{631}" ∷
    utf8 "\u{622}\u{686}\u{631}|\u{633}\u{648}|\u{627}\u{6b1}|\u{627}\u{631}\u{628}\u{639}|\u{62e}\u{645}|\u{62c}\u{645}|\u{687}\u{646}" ∷
    utf8 "\u{642} \u{645}|\u{639}" ∷
    utf8 "\u{642}\u{628}\u{644} \u{645}\u{633}\u{64a}\u{62d}|\u{639}\u{64a}\u{633}\u{648}\u{64a} \u{6a9}\u{627}\u{646} \u{67e}\u{647}\u{631}\u{64a}\u{646}" ∷
    utf8 "\u{635}\u{628}\u{62d}|\u{634}\u{627}\u{645}" ∷
    utf8 "\u{635}\u{628}\u{62d}، \u{645}\u{646}\u{62c}\u{647}\u{646}\u{62f}|\u{645}\u{646}\u{62c}\u{647}\u{646}\u{62f}، \u{634}\u{627}\u{645}" ∷
    utf8 "\u{645} \u{639} \u{648}|\u{6af}\u{68f}\u{64a}\u{644} \u{62f}\u{646}\u{64a}\u{627}\u{648}\u{64a} \u{648}\u{642}\u{62a}" ∷
    utf8 "mánnu|beaivi|diibmu|minuhtta|sekunda|beaivi ráidodássi" ∷
    utf8 "ođđj|guov|njuk|cuo|mies|geas|suoi|borg|čakč|golg|skáb|juov" ∷
    []

unfoldable pub texts_27 : List Text
texts_27 =
    utf8 "ođđajagemánnu|guovvamánnu|njukčamánnu|cuoŋománnu|miessemánnu|geassemánnu|suoidnemánnu|borgemánnu|čakčamánnu|golggotmánnu|skábmamánnu|juovlamánnu" ∷
    utf8 "O|G|N|C|M|G|S|B|Č|G|S|J" ∷ utf8 "sotn|vuos|maŋ|gask|duor|bear|láv" ∷
    utf8 "sotnabeaivi|vuossárga|maŋŋebárga|gaskavahkku|duorasdat|bearjadat|lávvardat" ∷ utf8 "S|V|M|G|D|B|L" ∷
    utf8 "o.Kr.|m.Kr." ∷ utf8 "ovdal Kristtusa|maŋŋel Kristtusa" ∷ utf8 "i.b.|e.b." ∷
    utf8 "iđitbeaivet|eahketbeaivet" ∷ utf8 "Mwezi|Ntsiku|Hora|Minuto|Segundo|Dayperiod" ∷
    utf8 "Jan|Fev|Mar|Abr|Mai|Jun|Jul|Aug|Set|Otu|Nov|Dec" ∷
    utf8 "Janeiro|Fevreiro|Marco|Abril|Maio|Junho|Julho|Augusto|Setembro|Otubro|Novembro|Decembro" ∷
    utf8 "Dim|Pos|Pir|Tat|Nai|Sha|Sab" ∷ utf8 "Dimingu|Chiposi|Chipiri|Chitatu|Chinai|Chishanu|Sabudu" ∷
    utf8 "D|P|C|T|N|S|S" ∷ utf8 "AC|AD" ∷ utf8 "Antes de Cristo|Anno Domini" ∷
    utf8 "Handu|Zaari|Guuru|Miniti|Miti|Adduha wala Aluula" ∷
    utf8 "Alhadi|Atinni|Atalaata|Alarba|Alhamiisa|Alzuma|Asibti" ∷
    utf8 "Nze|Lâ|Ngbonga|Ndurü ngbonga|Nzîna ngbonga|Na lâ" ∷
    utf8 "Nye|Ful|Mbä|Ngu|Bêl|Fön|Len|Kük|Mvu|Ngb|Nab|Kak" ∷
    utf8 "Nyenye|Fulundïgi|Mbängü|Ngubùe|Bêläwü|Föndo|Lengua|Kükürü|Mvuka|Ngberere|Nabändüru|Kakauka" ∷
    utf8 "N|F|M|N|B|F|L|K|M|N|N|K" ∷ utf8 "Bk1|Bk2|Bk3|Bk4|Bk5|Lâp|Lây" ∷
    utf8 "Bikua-ôko|Bïkua-ûse|Bïkua-ptâ|Bïkua-usïö|Bïkua-okü|Lâpôsö|Lâyenga" ∷ utf8 "K|S|T|S|K|P|Y" ∷
    utf8 "KnK|NpK" ∷ utf8 "Kôzo na Krîstu|Na pekô tî Krîstu" ∷ utf8 "ND|LK" ∷ utf8 "E, hh:mm:ss B" ∷
    utf8 "d.MM.y. GGGGG" ∷ utf8 "dd.MMM" ∷ utf8 "MMMM y." ∷ utf8 "dd.MM.y." ∷
    utf8 "mesec|dan|sat|minut|sekund|AM/PM" ∷ utf8 "jan|feb|mar|apr|maj|jun|jul|avg|sep|okt|nov|dec" ∷
    utf8 "januar|februar|mart|april|maj|jun|jul|avgust|septembar|oktobar|novembar|decembar" ∷
    utf8 "ned|pon|uto|sre|čet|pet|sub" ∷ utf8 "nedelja|ponedeljak|utorak|sreda|četvrtak|petak|subota" ∷
    utf8 "pre nove ere|nove ere" ∷ utf8 "UTC|Koordinisano univerzalno vreme" ∷
    utf8 "ⴰⵢⵢⵓⵔ|ⴰⵙⵙ|ⵜⴰⵙⵔⴰⴳⵜ|ⵜⵓⵙⴷⵉⴷⵜ|ⵜⴰⵙⵉⵏⵜ|ⵜⵉⵣⵉ ⴳ ⵡⴰⵙⵙ: ⵜⵉⴼⴰⵡⵜ/ⵜⴰⴷⴳⴳⵯⴰⵜ" ∷
    utf8 "ⵉⵏⵏ|ⴱⵕⴰ|ⵎⴰⵕ|ⵉⴱⵔ|ⵎⴰⵢ|ⵢⵓⵏ|ⵢⵓⵍ|ⵖⵓⵛ|ⵛⵓⵜ|ⴽⵜⵓ|ⵏⵓⵡ|ⴷⵓⵊ" ∷
    utf8 "ⵉⵏⵏⴰⵢⵔ|ⴱⵕⴰⵢⵕ|ⵎⴰⵕⵚ|ⵉⴱⵔⵉⵔ|ⵎⴰⵢⵢⵓ|ⵢⵓⵏⵢⵓ|ⵢⵓⵍⵢⵓⵣ|ⵖⵓⵛⵜ|ⵛⵓⵜⴰⵏⴱⵉⵔ|ⴽⵜⵓⴱⵔ|ⵏⵓⵡⴰⵏⴱⵉⵔ|ⴷⵓⵊⴰⵏⴱⵉⵔ" ∷
    utf8 "ⵉ|ⴱ|ⵎ|ⵉ|ⵎ|ⵢ|ⵢ|ⵖ|ⵛ|ⴽ|ⵏ|ⴷ" ∷ utf8 "ⴰⵙⴰ|ⴰⵢⵏ|ⴰⵙⵉ|ⴰⴽⵕ|ⴰⴽⵡ|ⴰⵙⵉⵎ|ⴰⵙⵉⴹ" ∷
    utf8 "ⴰⵙⴰⵎⴰⵙ|ⴰⵢⵏⴰⵙ|ⴰⵙⵉⵏⴰⵙ|ⴰⴽⵕⴰⵙ|ⴰⴽⵡⴰⵙ|ⵙⵉⵎⵡⴰⵙ|ⴰⵙⵉⴹⵢⴰⵙ" ∷ utf8 "ⴷⴰⵄ|ⴷⴼⵄ" ∷ utf8 "ⴷⴰⵜ ⵏ ⵄⵉⵙⴰ|ⴷⴼⴼⵉⵔ ⵏ ⵄⵉⵙⴰ" ∷
    utf8 "ⵜⵉⴼⴰⵡⵜ|ⵜⴰⴷⴳⴳⵯⴰⵜ" ∷ utf8 "d - E" ∷ utf8 "G y-MM-dd - E" ∷ utf8 "G y MMM d - E" ∷ utf8 "MM-dd - E" ∷
    utf8 "MMM d - E" ∷ utf8 "y MMMM d - EEEE" ∷ utf8 "y-MM-dd - E" ∷ utf8 "y MMM d - E" ∷
    utf8 "လိူၼ်|ဝၼ်း|မူင်း|မိၼိတ်ႉ|သႅၵ်ႉၵၢၼ်ႉ|ၶၢဝ်းယၢမ်းဝၼ်း" ∷
    utf8 "ၸၼ်ႇ|ၾႅပ်ႇ|မၢတ်ႉၶ်ျ|ဢေႇ|မေႇ|ၸုၼ်ႇ|ၸူႇ|ဢေႃး|သႅပ်ႇ|ဢွၵ်ႇ|ၼူဝ်ႇ|တီႇ" ∷
    utf8 "ၸၼ်ႇဝႃႇရီႇ|ၾႅပ်ႇဝႃႇရီႇ|မၢတ်ႉၶ်ျ|ဢေႇပရႄႇ|မေႇ|ၸုၼ်ႇ|ၸူႇလၢႆႇ|ဢေႃးၵၢတ်ႉ|သႅပ်ႇထႅမ်ႇပႃႇ|ဢွၵ်ႇထူဝ်ႇပႃႇ|ၼူဝ်ႇဝႅမ်ႇပႃႇ|တီႇသႅမ်ႇပႃႇ" ∷
    utf8 "ၸ.|ၾ.|မ.|ဢ.|မ.|ၸ.|ၸ.|ဢ.|သ.|ဢ.|ၼ.|တ." ∷
    utf8 "တိတ်ႉ|ၸၼ်|ၵၢၼ်း|ပုတ်ႉ|ၽတ်း|သုၵ်း|သဝ်" ∷
    utf8 "ဝၼ်းဢႃးတိတ်ႉ|ဝၼ်းၸၼ်|ဝၼ်းဢင်းၵၢၼ်း|ဝၼ်းပုတ်ႉ|ဝၼ်းၽတ်း|ဝၼ်းသုၵ်း|ဝၼ်းသဝ်" ∷
    utf8 "တိ.|ၸ.|ၵ.|ပု.|ၽ.|သု.|သ." ∷
    utf8 "ပီႇၸီႇ|ဢေႇတီႇ" ∷
    utf8 "ဢွၼ်ၼႃႈၸဝ်ႈၶရိတ်ႉ|ပီၶရိတ်ႉ" ∷
    utf8 "တၸ.|တလ." ∷
    utf8 "တွၼ်ႈၸဝ်ႉ|တွၼ်ႈလႃႈ" ∷ utf8 "ၸ.|လ." ∷
    utf8 "UTC|ၶၢဝ်းယၢမ်းလုမ်ႈၾႃႉ" ∷
    utf8 "E a h.mm" ∷ utf8 "E a h.mm.ss" ∷ utf8 "v HH.mm.ss" ∷ utf8 "v HH.mm" ∷ utf8 "M-d, E" ∷ utf8 "v a h.mm" ∷
    utf8 "y-M-d, E" ∷ utf8 "1 දින 0" ∷
    utf8 "මාසය|දිනය|පැය|විනාඩිය|තත්පරය|පෙ.ව/ප.ව" ∷
    utf8 "දුරුතු|නවම්|මැදින්|බක්|වෙසක්|පොසොන්|ඇසළ|නිකිණි|බිනර|වප්|ඉල්|උඳුවප්" ∷
    utf8 "දු|න|මැ|බ|වෙ|පො|ඇ|නි|බි|ව|ඉ|උ" ∷
    utf8 "ඉරිදා|සඳුදා|අඟහ|බදාදා|බ්\u{200d}රහස්|සිකු|සෙන" ∷
    utf8 "ඉරිදා|සඳුදා|අඟහරුවාදා|බදාදා|බ්\u{200d}රහස්පතින්දා|සිකුරාදා|සෙනසුරාදා" ∷
    utf8 "ඉ|ස|අ|බ|බ්\u{200d}ර|සි|සෙ" ∷
    utf8 "ක්\u{200d}රි.පූ.|ක්\u{200d}රි.ව." ∷
    utf8 "ක්\u{200d}රිස්තු පූර්ව|ක්\u{200d}රිස්තු වර්ෂ" ∷
    utf8 "පෙ.ව.|ප.ව." ∷ utf8 "පෙ|ප" ∷ utf8 "9222226666663344445555551" ∷
    utf8 "|මධ්\u{200d}යාහ්නය|පාන්දර|දවල්|හවස|රෑ|උදේ|||මැදියමට පසු" ∷
    utf8 "|ම|පා|ද|හ|රෑ|උ|||මැ" ∷ utf8 "ග්\u{200d}රිමවේ||+||-||." ∷
    utf8 "UTC|සමකක්ෂ සාර්ව වේලාව" ∷ utf8 "1 'o' 0" ∷
    utf8 "mesiac|deň|hodina|minúta|sekunda|AM/PM" ∷ utf8 "jan|feb|mar|apr|máj|jún|júl|aug|sep|okt|nov|dec" ∷
    utf8 "januára|februára|marca|apríla|mája|júna|júla|augusta|septembra|októbra|novembra|decembra" ∷
    utf8 "január|február|marec|apríl|máj|jún|júl|august|september|október|november|december" ∷
    utf8 "ne|po|ut|st|št|pi|so" ∷ utf8 "nedeľa|pondelok|utorok|streda|štvrtok|piatok|sobota" ∷ utf8 "n|p|u|s|š|p|s" ∷
    utf8 "pred Kr.|po Kr." ∷ utf8 "pred Kristom|po Kristovi" ∷ utf8 "|napol.|ráno|popol.|večer|v noci|dopol.|||" ∷
    utf8 "|napoludnie|ráno|popoludní|večer|v noci|dopoludnia|||" ∷ utf8 "|nap.|ráno|pop.|več.|v n.|dop.|||" ∷
    utf8 "UTC|koordinovaný svetový čas" ∷ utf8 "E, d. M. y" ∷ utf8 "1 'ob' 0" ∷
    utf8 "mesec|dan|ura|minuta|sekunda|dop/pop" ∷ utf8 "jan.|feb.|mar.|apr.|maj|jun.|jul.|avg.|sep.|okt.|nov.|dec." ∷
    utf8 "januar|februar|marec|april|maj|junij|julij|avgust|september|oktober|november|december" ∷
    utf8 "ned.|pon.|tor.|sre.|čet.|pet.|sob." ∷ utf8 "nedelja|ponedeljek|torek|sreda|četrtek|petek|sobota" ∷
    utf8 "n|p|t|s|č|p|s" ∷ utf8 "pred Kristusom|po Kristusu" ∷ utf8 "d|p" ∷ utf8 "5555552222663333334444551" ∷
    utf8 "|opold.|zjut.|pop.|zveč.|ponoči|dop.|||" ∷
    []

unfoldable pub texts_28 : List Text
texts_28 =
    utf8 "|opoldne|zjutraj|popoldan|zvečer|ponoči|dopoldan|||" ∷ utf8 "|12.00|zj|p|zv|po|d|||" ∷
    utf8 "GMT ||+||-||." ∷ utf8 "UTC|univerzalni koordinirani čas" ∷ utf8 "E, MMM d. y G" ∷ utf8 "MMM d. y G" ∷
    utf8 "E, MMM d." ∷ utf8 "m.ss." ∷ utf8 "cccc, MMMM d. y" ∷ utf8 "MMMM d. y" ∷ utf8 "MMM d. y" ∷
    utf8 "ccc, MMM d. y" ∷ utf8 "1 'tme' 0" ∷
    utf8 "uđiv|kuovâ|njuhčâ|cuáŋui|vyesi|kesi|syeini|porge|čohčâ|roovvâd|skammâ|juovlâ" ∷
    utf8 "uđđâivemáánu|kuovâmáánu|njuhčâmáánu|cuáŋuimáánu|vyesimáánu|kesimáánu|syeinimáánu|porgemáánu|čohčâmáánu|roovvâdmáánu|skammâmáánu|juovlâmáánu" ∷
    utf8 "U|K|NJ|C|V|K|S|P|Č|R|S|J" ∷ utf8 "pas|vuo|maj|kos|tuo|vás|láv" ∷
    utf8 "pasepeeivi|vuossaargâ|majebaargâ|koskoho|tuorâstuv|vástuppeeivi|lávurduv" ∷ utf8 "p|V|M|K|T|V|L" ∷
    utf8 "pasepeivi|vuossargâ|majebargâ|koskokko|tuorâstâh|vástuppeivi|lávurdâh" ∷ utf8 "oKr.|mKr." ∷
    utf8 "Ovdil Kristus šoddâm|maŋa Kristus šoddâm" ∷ utf8 "ip.|ep." ∷
    utf8 "Mwedzi|Zuva|Awa|Mineti|Sekondi|Dayperiod" ∷ utf8 "Ndi|Kuk|Kur|Kub|Chv|Chk|Chg|Nya|Gun|Gum|Mbu|Zvi" ∷
    utf8 "Ndira|Kukadzi|Kurume|Kubvumbi|Chivabvu|Chikumi|Chikunguru|Nyamavhuvhu|Gunyana|Gumiguru|Mbudzi|Zvita" ∷
    utf8 "N|K|K|K|C|C|C|N|G|G|M|Z" ∷ utf8 "Svo|Muv|Chp|Cht|Chn|Chs|Mug" ∷
    utf8 "Svondo|Muvhuro|Chipiri|Chitatu|China|Chishanu|Mugovera" ∷ utf8 "S|M|C|C|C|C|M" ∷
    utf8 "Kristo asati auya|mugore ramambo vedu" ∷ utf8 "dd-MMM-y" ∷ utf8 "1 'ee' 0" ∷
    utf8 "Bil|maalin|Saacad|daqiiqad|ilbiriqsi|GH/GD" ∷ utf8 "Jan|Feb|Mar|Abr|May|Jun|Lul|Ogs|Seb|Okt|Nof|Dis" ∷
    utf8 "Janaayo|Febraayo|Maarso|Abriil|Maayo|Juun|Luulyo|Agosto|Sebtembar|Oktoobar|Noofeembar|Diseembar" ∷
    utf8 "J|F|M|A|M|J|L|O|S|O|N|D" ∷
    utf8 "Jannaayo|Febraayo|Maarso|Abriil|Maayo|Juun|Luulyo|Ogosto|Sebteembar|Oktoobar|Noofeembar|Diseembar" ∷
    utf8 "Axd|Isn|Tldo|Arbc|Khms|Jmc|Sbti" ∷ utf8 "Axad|Isniin|Talaado|Arbaco|Khamiis|Jimco|Sabti" ∷
    utf8 "A|I|T|A|Kh|J|S" ∷ utf8 "Ciise Hortii|Ciise Dabadii" ∷ utf8 "GH|GD" ∷ utf8 "h|d" ∷
    utf8 "Waqtiga UTC|Waqtiga Isku-xiran ee Caalamka" ∷ utf8 "d.M.y GGGG" ∷ utf8 "HH:mm:ss, v" ∷ utf8 "HH:mm, v" ∷
    utf8 "HH, v" ∷ utf8 "h:mm:ss a, zzzz" ∷ utf8 "h:mm:ss a, z" ∷ utf8 "h:mm:ss a, v" ∷ utf8 "h:mm a, v" ∷
    utf8 "1 'në' 0" ∷ utf8 "0, 1" ∷ utf8 "muaj|ditë|orë|minutë|sekondë|paradite/pasdite" ∷
    utf8 "jan|shk|mar|pri|maj|qer|korr|gush|sht|tet|nën|dhj" ∷
    utf8 "janar|shkurt|mars|prill|maj|qershor|korrik|gusht|shtator|tetor|nëntor|dhjetor" ∷
    utf8 "j|sh|m|p|m|q|k|g|sh|t|n|dh" ∷ utf8 "die|hën|mar|mër|enj|pre|sht" ∷
    utf8 "e diel|e hënë|e martë|e mërkurë|e enjte|e premte|e shtunë" ∷ utf8 "d|h|m|m|e|p|sh" ∷ utf8 "p.K.|mb.K." ∷
    utf8 "para Krishtit|mbas Krishtit" ∷ utf8 "p.d.|m.d." ∷ utf8 "e paradites|e pasdites" ∷
    utf8 "5555222226663333334444441" ∷ utf8 "|e mesditës|e mëngjesit|e pasdites|e mbrëmjes|e natës|e paradites|||" ∷
    utf8 "UTC|Ora universale e koordinuar" ∷ utf8 "месец|дан|сат|минут|секунд|AM/PM" ∷
    utf8 "јан|феб|мар|апр|мај|јун|јул|авг|сеп|окт|нов|дец" ∷
    utf8 "јануар|фебруар|март|април|мај|јун|јул|август|септембар|октобар|новембар|децембар" ∷
    utf8 "нед|пон|уто|сре|чет|пет|суб" ∷ utf8 "недеља|понедељак|уторак|среда|четвртак|петак|субота" ∷
    utf8 "н|п|у|с|ч|п|с" ∷ utf8 "п. н. е.|н. е." ∷ utf8 "пре нове ере|нове ере" ∷ utf8 "п.н.е.|н.е." ∷
    utf8 "|подне|ујутру|по подне|увече|ноћу||||" ∷ utf8 "UTC|Координисано универзално време" ∷
    utf8 "Phe|Kol|Hlb|Mme|Mot|Jan|Upu|Pha|Leo|Mph|Pun|Tsh" ∷
    utf8 "Pherekgong|Hlakola|Hlakubele|Mmesa|Motsheanong|Phupjane|Phupu|Phato|Lwetse|Mphalane|Pudungwana|Tshitwe" ∷
    utf8 "Son|Mma|Bed|Rar|Ne|Hla|Moq" ∷ utf8 "Sontaha|Mantaha|Labobedi|Laboraro|Labone|Labohlano|Moqebelo" ∷
    utf8 "Hoseng|Thapama" ∷ utf8 "1 'jam' 0" ∷ utf8 "sasih|dinten|jam|menit|detik|AM/PM" ∷
    utf8 "Jan|Péb|Mar|Apr|Méi|Jun|Jul|Ags|Sép|Okt|Nop|Dés" ∷
    utf8 "Januari|Pébruari|Maret|April|Méi|Juni|Juli|Agustus|Séptémber|Oktober|Nopémber|Désémber" ∷
    utf8 "J|P|M|A|M|J|J|A|S|O|N|D" ∷ utf8 "Mng|Sen|Sal|Reb|Kem|Jum|Sap" ∷
    utf8 "Minggu|Senén|Salasa|Rebo|Kemis|Jumaah|Saptu" ∷ utf8 "E M-d-y G" ∷ utf8 "y-MM-dd GGGGG" ∷
    utf8 "månad|dag|timme|minut|sekund|fm/em" ∷ utf8 "jan.|feb.|mars|apr.|maj|juni|juli|aug.|sep.|okt.|nov.|dec." ∷
    utf8 "januari|februari|mars|april|maj|juni|juli|augusti|september|oktober|november|december" ∷
    utf8 "sön|mån|tis|ons|tors|fre|lör" ∷ utf8 "söndag|måndag|tisdag|onsdag|torsdag|fredag|lördag" ∷
    utf8 "före Kristus|efter Kristus" ∷ utf8 "fm|em" ∷
    utf8 "||på morg.|på efterm.|på kvällen|på natten|på förm.|||" ∷
    utf8 "||på morgonen|på eftermiddagen|på kvällen|på natten|på förmiddagen|||" ∷
    utf8 "UTC|koordinerad universell tid" ∷ utf8 "G MM-y" ∷ utf8 "mwezi|siku|saa|dakika|sekunde|AM/PM" ∷
    utf8 "5555222666663333444555551" ∷ utf8 "|adhuhuri|alfajiri|mchana|jioni|usiku|asubuhi|||" ∷
    utf8 "|saa sita za mchana|alfajiri|mchana|jioni|usiku|asubuhi|||" ∷
    utf8 "|mchana|alfajiri|mchana|jioni|usiku|asubuhi|||" ∷ utf8 "UTC|Mfumo wa kuratibu saa ulimwenguni" ∷
    utf8 "EEEE، d \u{712}MMM y G" ∷ utf8 "d \u{712}MMM y G" ∷ utf8 "v HH\u{70f}\u{72b}\u{725}" ∷ utf8 "EEEE، dd/MM" ∷
    utf8 "E، d \u{712}MMM" ∷ utf8 "d \u{712}MMMM" ∷ utf8 "d \u{712}MMM" ∷ utf8 "EEEE، d \u{712}MMMM y" ∷
    utf8 "d \u{712}MMMM y" ∷
    []

unfoldable pub texts_29 : List Text
texts_29 =
    utf8 "d \u{712}MMM y" ∷ utf8 "d-MM-y" ∷ utf8 "E، d \u{712}MMM y" ∷
    utf8 "1 \u{712}\u{72b}\u{725}\u{72c}\u{710} 0" ∷
    utf8 "\u{71d}\u{72a}\u{71a}\u{710}|\u{71d}\u{718}\u{721}\u{710}|\u{72b}\u{725}\u{72c}\u{710}|\u{729}\u{71b}\u{71d}\u{722}\u{72c}\u{710}|\u{72a}\u{726}\u{726}\u{710}|\u{729}\u{715}\u{721} \u{71b}\u{717}\u{72a}\u{710}/\u{712}\u{72c}\u{72a} \u{71b}\u{717}\u{72a}\u{710}" ∷
    utf8 "\u{71f}\u{722}\u{718}\u{722} \u{712}|\u{72b}\u{712}\u{71b}|\u{710}\u{715}\u{72a}|\u{722}\u{71d}\u{723}\u{722}|\u{710}\u{71d}\u{72a}|\u{71a}\u{719}\u{71d}\u{72a}\u{722}|\u{72c}\u{721}\u{718}\u{719}|\u{710}\u{712}|\u{710}\u{71d}\u{720}\u{718}\u{720}|\u{72c}\u{72b}\u{72a}\u{71d}\u{722} \u{710}|\u{72c}\u{72b}\u{72a}\u{71d}\u{722} \u{712}|\u{71f}\u{722}\u{718}\u{722} \u{710}" ∷
    utf8 "\u{71f}\u{722}\u{718}\u{722} \u{710}\u{71a}\u{72a}\u{71d}\u{710}|\u{72b}\u{712}\u{71b}|\u{710}\u{715}\u{72a}|\u{722}\u{71d}\u{723}\u{722}|\u{710}\u{71d}\u{72a}|\u{71a}\u{719}\u{71d}\u{72a}\u{722}|\u{72c}\u{721}\u{718}\u{719}|\u{710}\u{712}|\u{710}\u{71d}\u{720}\u{718}\u{720}|\u{72c}\u{72b}\u{72a}\u{71d}\u{722} \u{729}\u{715}\u{721}\u{71d}\u{710}|\u{72c}\u{72b}\u{72a}\u{71d}\u{722} \u{710}\u{71a}\u{72a}\u{71d}\u{710}|\u{71f}\u{722}\u{718}\u{722} \u{729}\u{715}\u{721}\u{71d}\u{710}" ∷
    utf8 "\u{71f}|\u{72b}|\u{710}|\u{722}|\u{710}|\u{71a}|\u{72c}|\u{710}|\u{710}|\u{72c}|\u{72c}|\u{71f}" ∷
    utf8 "\u{71a}\u{715}|\u{72c}\u{72a}\u{71d}\u{722}|\u{72c}\u{720}\u{72c}|\u{710}\u{72a}\u{712}\u{725}|\u{71a}\u{721}\u{72b}|\u{725}\u{72a}\u{718}|\u{72b}\u{712}\u{72c}\u{710}" ∷
    utf8 "\u{71a}\u{715}\u{712}\u{72b}\u{712}\u{710}|\u{72c}\u{72a}\u{71d}\u{722}\u{712}\u{72b}\u{712}\u{710}|\u{72c}\u{720}\u{72c}\u{712}\u{72b}\u{712}\u{710}|\u{710}\u{72a}\u{712}\u{725}\u{712}\u{72b}\u{712}\u{710}|\u{71a}\u{721}\u{72b}\u{712}\u{72b}\u{712}\u{710}|\u{725}\u{72a}\u{718}\u{712}\u{72c}\u{710}|\u{72b}\u{712}\u{72c}\u{710}" ∷
    utf8 "\u{71a}|\u{72c}|\u{72c}|\u{710}|\u{71a}|\u{725}|\u{72b}" ∷
    utf8 "\u{70f}\u{729}\u{721}\u{200c}|\u{70f}\u{72b}\u{721}\u{200c}" ∷
    utf8 "\u{729}\u{715}\u{721} \u{721}\u{72b}\u{71d}\u{71a}\u{710}|\u{72b}\u{722}\u{72c}\u{710} \u{721}\u{72a}\u{722}\u{71d}\u{72c}\u{710}" ∷
    utf8 "\u{70f}\u{729}\u{71b}\u{200c}|\u{70f}\u{712}\u{71b}\u{200c}" ∷
    utf8 "\u{70f}\u{729}\u{200c}|\u{70f}\u{712}\u{200c}" ∷
    utf8 "UTC|\u{725}\u{715}\u{722}\u{710} \u{72c}\u{712}\u{720}\u{71d}\u{72c}\u{710} \u{721}\u{71b}\u{718}\u{71f}\u{723}\u{72c}\u{710}" ∷
    utf8 "stycznia|lutego|marca|kwietnia|moja|czyrwca|lipca|siyrpnia|września|października|listopada|grudnia" ∷
    utf8 "niydziela|pyńdziałek|wtorek|strzoda|sztwortek|piōntek|sobota" ∷ utf8 "do połedniŏ|po połedniu" ∷
    utf8 "1 அன்று 0" ∷
    utf8 "மாதம்|நாள்|மணிநேரம்|நிமிடம்|விநாடி|AM/PM" ∷
    utf8 "ஜன.|பிப்.|மார்.|ஏப்.|மே|ஜூன்|ஜூலை|ஆக.|செப்.|அக்.|நவ.|டிச." ∷
    utf8 "ஜனவரி|பிப்ரவரி|மார்ச்|ஏப்ரல்|மே|ஜூன்|ஜூலை|ஆகஸ்ட்|செப்டம்பர்|அக்டோபர்|நவம்பர்|டிசம்பர்" ∷
    utf8 "ஜ|பி|மா|ஏ|மே|ஜூ|ஜூ|ஆ|செ|அ|ந|டி" ∷
    utf8 "ஞாயி.|திங்.|செவ்.|புத.|வியா.|வெள்.|சனி" ∷
    utf8 "ஞாயிறு|திங்கள்|செவ்வாய்|புதன்|வியாழன்|வெள்ளி|சனி" ∷
    utf8 "ஞா|தி|செ|பு|வி|வெ|ச" ∷ utf8 "கி.மு.|கி.பி." ∷
    utf8 "கிறிஸ்துவுக்கு முன்|அன்னோ டோமினி" ∷
    utf8 "5552266666663377448885551" ∷
    utf8 "|நண்பகல்|அதிகாலை|மதியம்|மாலை|இரவு|காலை|பிற்பகல்|அந்தி மாலை|" ∷
    utf8 "|நண்.|காலை|மதி.|மா.|இர.|கா.|பிற்.|அந்தி மா.|" ∷
    utf8 "UTC|ஒருங்கிணைந்த சர்வதேச நேரம்" ∷
    utf8 "G, d MMM, y, E" ∷ utf8 "G d, MMM y" ∷ utf8 "d, MMMM y, EEEE" ∷ utf8 "d MMM, y, E" ∷ utf8 "1 0కి" ∷
    utf8 "నెల|రోజు|గంట|నిమిషము|సెకను|AM/PM" ∷
    utf8 "జన|ఫిబ్ర|మార్చి|ఏప్రి|మే|జూన్|జులై|ఆగ|సెప్టెం|అక్టో|నవం|డిసెం" ∷
    utf8 "జనవరి|ఫిబ్రవరి|మార్చి|ఏప్రిల్|మే|జూన్|జులై|ఆగస్టు|సెప్టెంబర్|అక్టోబర్|నవంబర్|డిసెంబర్" ∷
    utf8 "జ|ఫి|మా|ఏ|మే|జూ|జు|ఆ|సె|అ|న|డి" ∷
    utf8 "ఆది|సోమ|మంగళ|బుధ|గురు|శుక్ర|శని" ∷
    utf8 "ఆదివారం|సోమవారం|మంగళవారం|బుధవారం|గురువారం|శుక్రవారం|శనివారం" ∷
    utf8 "ఆ|సో|మ|బు|గు|శు|శ" ∷ utf8 "క్రీపూ|క్రీశ" ∷
    utf8 "క్రీస్తు పూర్వం|క్రీస్తు శకం" ∷
    utf8 "||ఉదయం|మధ్యాహ్నం|సాయంత్రం|రాత్రి||||" ∷
    utf8 "UTC|సమన్వయ సార్వజనీన సమయం" ∷ utf8 "Elap|Aparan|Esaa|Idakika|Isekonde|TA/EB" ∷
    utf8 "Rar|Muk|Kwa|Dun|Mar|Mod|Jol|Ped|Sok|Tib|Lab|Poo" ∷
    utf8 "Orara|Omuk|Okwamg’|Odung’el|Omaruk|Omodok’king’ol|Ojola|Opedel|Osokosokoma|Otibar|Olabor|Opoo" ∷
    utf8 "R|M|K|D|M|M|J|P|S|T|L|P" ∷ utf8 "Jum|Bar|Aar|Uni|Ung|Kan|Sab" ∷
    utf8 "Nakaejuma|Nakaebarasa|Nakaare|Nakauni|Nakaung’on|Nakakany|Nakasabiti" ∷ utf8 "J|B|A|U|U|K|S" ∷
    utf8 "Taparachu|Ebongi" ∷ utf8 "1 'соати' 0" ∷ utf8 "моҳ|рӯз|соат|дақиқа|сония|субҳ/бегоҳ" ∷
    utf8 "Январ|Феврал|Март|Апрел|Май|Июн|Июл|Август|Сентябр|Октябр|Ноябр|Декабр" ∷
    utf8 "Яшб|Дшб|Сшб|Чшб|Пшб|Ҷмъ|Шнб" ∷ utf8 "Якшанбе|Душанбе|Сешанбе|Чоршанбе|Панҷшанбе|Ҷумъа|Шанбе" ∷
    utf8 "Я|Д|С|Ч|П|Ҷ|Ш" ∷ utf8 "ПеМ|ПаМ" ∷ utf8 "Пеш аз милод|Пас аз милод" ∷
    utf8 "UTC|Вақти ҷаҳонии ҳамоҳангсозӣ" ∷ utf8 "E HH:mm น." ∷ utf8 "EEEEที่ d MMMM G y" ∷
    utf8 "d MMMM G y" ∷ utf8 "E d/M/G y" ∷ utf8 "EEEEที่ d MMM G y" ∷ utf8 "E d MMM G y" ∷
    utf8 "d MMM G y" ∷ utf8 "H นาฬิกา mm นาที ss วินาที zzzz" ∷
    utf8 "H นาฬิกา mm นาที ss วินาที z" ∷ utf8 "HH:mm น." ∷
    utf8 "EEEEที่ d MMM" ∷ utf8 "EEEEที่ d MMMM" ∷ utf8 "h:mm น. a v" ∷
    utf8 "EEEEที่ d MMM y" ∷ utf8 "EEEEที่ d MMMM y" ∷ utf8 "E d MMMM y" ∷ utf8 "1 เวลา 0" ∷
    utf8 "เดือน|วัน|ชั่วโมง|นาที|วินาที|ช่วงวัน" ∷
    utf8 "ม.ค.|ก.พ.|มี.ค.|เม.ย.|พ.ค.|มิ.ย.|ก.ค.|ส.ค.|ก.ย.|ต.ค.|พ.ย.|ธ.ค." ∷
    utf8 "มกราคม|กุมภาพันธ์|มีนาคม|เมษายน|พฤษภาคม|มิถุนายน|กรกฎาคม|สิงหาคม|กันยายน|ตุลาคม|พฤศจิกายน|ธันวาคม" ∷
    utf8 "อาทิตย์|จันทร์|อังคาร|พุธ|พฤหัส|ศุกร์|เสาร์" ∷
    utf8 "วันอาทิตย์|วันจันทร์|วันอังคาร|วันพุธ|วันพฤหัสบดี|วันศุกร์|วันเสาร์" ∷
    utf8 "อา|จ|อ|พ|พฤ|ศ|ส" ∷ utf8 "ก่อน ค.ศ.|ค.ศ." ∷
    utf8 "ปีก่อนคริสตกาล|คริสต์ศักราช" ∷
    utf8 "ก่อนเที่ยง|หลังเที่ยง" ∷ utf8 "5555552222223777448885551" ∷
    utf8 "|เที่ยง|ในตอนเช้า|ในตอนบ่าย|ในตอนเย็น|กลางคืน||บ่าย|ค่ำ|" ∷
    utf8 "|เที่ยง|เช้า|เที่ยง|เย็น|กลางคืน||บ่าย|ค่ำ|" ∷
    utf8 "UTC|เวลาสากลเชิงพิกัด" ∷ utf8 "E፣ HH:mm" ∷ utf8 "E፣ HH:mm:ss" ∷ utf8 "E፣ h:mm a" ∷
    utf8 "E፣ h:mm:ss a" ∷ utf8 "E፣ M/d/y G" ∷ utf8 "E፣ d MMM y G" ∷ utf8 "E፣ d MMM" ∷ utf8 "EEEE፣ d MMMM y" ∷
    utf8 "1 ሰዓት 0" ∷ utf8 "ወርሒ|መዓልቲ|ሰዓት|ደቒቕ|ሴኮንድ|ኤ.ኤም/ፒ.ኤም" ∷ utf8 "ጥሪ|ለካ|መጋ|ሚያ|ግን|ሰነ|ሓም|ነሓ|መስ|ጥቅ|ሕዳ|ታሕ" ∷
    utf8 "ጥሪ|ለካቲት|መጋቢት|ሚያዝያ|ጉንበት|ሰነ|ሓምለ|ነሓሰ|መስከረም|ጥቅምቲ|ሕዳር|ታሕሳስ" ∷ utf8 "ጥ|ለ|መ|ሚ|ግ|ሰ|ሓ|ነ|መ|ጥ|ሕ|ታ" ∷
    utf8 "ሰን|ሰኑ|ሰሉ|ረቡ|ሓሙ|ዓር|ቀዳ" ∷ utf8 "ሰንበት|ሰኑይ|ሰሉስ|ረቡዕ|ሓሙስ|ዓርቢ|ቀዳም" ∷ utf8 "ሰ|ሰ|ሰ|ረ|ሓ|ዓ|ቀ" ∷
    utf8 "ቅድመ ክርስቶስ|ዓመተ ምሕረት" ∷ utf8 "ቅ.ቀ.|ድ.ቀ." ∷ utf8 "UTC|ዝተሳነየ ኣድማሳዊ ግዜ" ∷ utf8 "'sagat' HH v" ∷ utf8 "dd.MM E" ∷
    utf8 "d MMM E" ∷ utf8 "d MMMM E" ∷ utf8 "d MMMM y EEEE" ∷
    []

unfoldable pub texts_30 : List Text
texts_30 =
    utf8 "dd.MM.y E" ∷ utf8 "d MMM y E" ∷ utf8 "1 'sagat' 0" ∷
    utf8 "aý|gün|sagat|minut|sekunt|günortadan öň/günortadan soň" ∷
    utf8 "ýan|few|mart|apr|maý|iýun|iýul|awg|sen|okt|noý|dek" ∷
    utf8 "ýanwar|fewral|mart|aprel|maý|iýun|iýul|awgust|sentýabr|oktýabr|noýabr|dekabr" ∷
    utf8 "Ý|F|M|A|M|I|I|A|S|O|N|D" ∷ utf8 "Ýan|Few|Mar|Apr|Maý|Iýun|Iýul|Awg|Sen|Okt|Noý|Dek" ∷
    utf8 "Ýanwar|Fewral|Mart|Aprel|Maý|Iýun|Iýul|Awgust|Sentýabr|Oktýabr|Noýabr|Dekabr" ∷
    utf8 "ýek|duş|siş|çar|pen|ann|şen" ∷ utf8 "ýekşenbe|duşenbe|sişenbe|çarşenbe|penşenbe|anna|şenbe" ∷
    utf8 "Ý|D|S|Ç|P|A|Ş" ∷ utf8 "Ýek|Duş|Siş|Çar|Pen|Ann|Şen" ∷
    utf8 "Ýekşenbe|Duşenbe|Sişenbe|Çarşenbe|Penşenbe|Anna|Şenbe" ∷ utf8 "B.e.öň|B.e." ∷ utf8 "Isadan öň|Isadan soň" ∷
    utf8 "go.öň|go.soň" ∷ utf8 "günortadan öň|günortadan soň" ∷ utf8 "öň|soň" ∷
    utf8 "UTC|Utgaşdyrylýan ähliumumy wagt" ∷ utf8 "Fer|Tlh|Mop|Mor|Mot|See|Phu|Pha|Lwe|Dip|Ngw|Sed" ∷
    utf8 "Ferikgong|Tlhakole|Mopitlo|Moranang|Motsheganang|Seetebosigo|Phukwi|Phatwe|Lwetse|Diphalane|Ngwanatsele|Sedimonthole" ∷
    utf8 "Tsh|Mos|Labb|Labr|Labn|Labt|Mat" ∷ utf8 "Tshipi|Mosupologo|Labobedi|Laboraro|Labone|Labotlhano|Matlhatso" ∷
    utf8 "Pele ga tsalo ya Morena Jeso|Morago ga Leso la Morena Jeso" ∷ utf8 "dd MM y GGGGG" ∷
    utf8 "māhina|ʻaho|houa|miniti|sekoni|HH/EA" ∷ utf8 "Sān|Fēp|Maʻa|ʻEpe|Mē|Sun|Siu|ʻAok|Sēp|ʻOka|Nōv|Tīs" ∷
    utf8 "Sānuali|Fēpueli|Maʻasi|ʻEpeleli|Mē|Sune|Siulai|ʻAokosi|Sēpitema|ʻOkatopa|Nōvema|Tīsema" ∷
    utf8 "S|F|M|ʻE|M|S|S|ʻA|S|ʻO|N|T" ∷
    utf8 "Sānuali|Fēpueli|Maʻasi|ʻEpeleli|Mē|Sune|Siulai|ʻAokosi|Sepitema|ʻOkatopa|Nōvema|Tīsema" ∷
    utf8 "Sāp|Mōn|Tūs|Pul|Tuʻa|Fal|Tok" ∷ utf8 "Sāpate|Mōnite|Tūsite|Pulelulu|Tuʻapulelulu|Falaite|Tokonaki" ∷
    utf8 "S|M|T|P|T|F|T" ∷ utf8 "KM|TS" ∷ utf8 "ki muʻa|taʻu ʻo Sīsū" ∷ utf8 "HH|EA" ∷ utf8 "hengihengi|efiafi" ∷
    utf8 "UTC|taimi fakaemāmani" ∷ utf8 "'tenpo' 'ilo' #h B" ∷ utf8 "zzzz 'la' HH:mm:ss" ∷ utf8 "z 'la' HH:mm:ss" ∷
    utf8 "#HH:mm" ∷ utf8 "#HH:mm:ss" ∷ utf8 "#HH:mm:ss 'lon' v" ∷ utf8 "'tenpo' 'ilo' #h a" ∷ utf8 "#h:mm a" ∷
    utf8 "#h:mm:ss a" ∷ utf8 "#h:mm:ss a 'lon' v" ∷ utf8 "#h:mm a 'lon' v" ∷ utf8 "#d" ∷ utf8 "#y" ∷
    utf8 "'sike' #y ) #M ) #d" ∷ utf8 "'tenpo' 'sike' #y 'la' 'tenpo' MMMM 'la' 'tenpo' 'suno' #d" ∷
    utf8 "#y 'la' MMMM" ∷ utf8 "#y)#M)#d" ∷ utf8 "'sike' #y 'la' MMM 'la' 'suno' #d" ∷
    utf8 "tenpo mun|tenpo suno|tenpo ilo|Minute|Second|Dayperiod" ∷
    utf8 "tenpo mun #1|tenpo mun #2|tenpo mun #3|tenpo mun #4|tenpo mun #5|tenpo mun #6|tenpo mun #7|tenpo mun #8|tenpo mun #9|tenpo mun #10|tenpo mun #11|tenpo mun #12" ∷
    utf8 "suno esun #7|suno esun #1|suno esun #2|suno esun #3|suno esun #4|suno esun #5|suno esun #6" ∷
    utf8 "pi open suno|pi pini suno" ∷ utf8 "tenpo GMT||+||-||:" ∷ utf8 "G dd.MM.y E" ∷ utf8 "G d MMM y E" ∷
    utf8 "d.M.y E" ∷ utf8 "ay|gün|saat|dakika|saniye|ÖÖ/ÖS" ∷
    utf8 "Oca|Şub|Mar|Nis|May|Haz|Tem|Ağu|Eyl|Eki|Kas|Ara" ∷
    utf8 "Ocak|Şubat|Mart|Nisan|Mayıs|Haziran|Temmuz|Ağustos|Eylül|Ekim|Kasım|Aralık" ∷
    utf8 "O|Ş|M|N|M|H|T|A|E|E|K|A" ∷ utf8 "Paz|Pzt|Sal|Çar|Per|Cum|Cmt" ∷
    utf8 "Pazar|Pazartesi|Salı|Çarşamba|Perşembe|Cuma|Cumartesi" ∷ utf8 "P|P|S|Ç|P|C|C" ∷ utf8 "MÖ|MS" ∷
    utf8 "Milattan Önce|Milattan Sonra" ∷ utf8 "ÖÖ|ÖS" ∷ utf8 "öö|ös" ∷ utf8 "5555552222263333337445551" ∷
    utf8 "|öğle|sabah|öğleden sonra|akşam|gece|öğleden önce|akşamüstü||" ∷
    utf8 "|ö|sabah|öğleden sonra|akşam|gece|öğleden önce|akşamüstü||" ∷ utf8 "UTC|Eş Güdümlü Evrensel Zaman" ∷
    utf8 "G y 'ел'" ∷ utf8 "G y 'ел', d MMM, E" ∷ utf8 "G y 'ел', d MMM" ∷ utf8 "d MMMM, y 'ел', EEEE" ∷
    utf8 "d MMMM, y 'ел'" ∷ utf8 "y 'ел', d MMM" ∷ utf8 "y 'ел', MMM" ∷ utf8 "y 'ел', d MMM, E" ∷
    utf8 "y 'ел', MMMM" ∷ utf8 "d MMM, y 'ел'" ∷ utf8 "1 0 'сәгатьтә'" ∷ utf8 "ай|көн|сәгать|минут|секунд|AM/PM" ∷
    utf8 "гыйн.|фев.|мар.|апр.|май|июнь|июль|авг.|сент.|окт.|нояб.|дек." ∷
    utf8 "гыйнвар|февраль|март|апрель|май|июнь|июль|август|сентябрь|октябрь|ноябрь|декабрь" ∷
    utf8 "якш.|дүш.|сиш.|чәр.|пәнҗ.|җом.|шим." ∷ utf8 "якшәмбе|дүшәмбе|сишәмбе|чәршәмбе|пәнҗешәмбе|җомга|шимбә" ∷
    utf8 "Я|Д|С|Ч|П|Җ|Ш" ∷ utf8 "б.э.к.|милади" ∷ utf8 "безнең эрага кадәр|милади" ∷
    utf8 "UTC|Бөтендөнья килештерелгән вакыты" ∷ utf8 "HH'ш'" ∷ utf8 "HH'ш' v" ∷ utf8 "y'ч' MMMM d, EEEE" ∷
    utf8 "y'ч' MMMM d" ∷ utf8 "y'ч' MMM d" ∷ utf8 "y'ч' MMM" ∷ utf8 "y'ч' MMM d, E" ∷ utf8 "y'ч' MMMM" ∷
    utf8 "ай|хүн|шак|минута|секунда|AM/PM" ∷ utf8 "Янв.|Февр.|Мар.|Апр.|Май|Июн.|Июл.|Авг.|Сент.|Окт.|Нояб.|Дек." ∷
    utf8 "УХ|ПН|ВТ|СР|ЧТ|ПТ|СБ" ∷ utf8 "Улуг-хүн|Понедельник|Вторник|Среда|Четверг|Пятница|Суббота" ∷
    utf8 "У|П|В|С|Ч|П|С" ∷ utf8 "БЭЧ|БЭ" ∷ utf8 "Христос бертинде|Христос төрүмелинден" ∷
    utf8 "Ayur|Ass|Tasragt|Tusdat|Tusnat|Zdat azal/Deffir azal" ∷
    utf8 "Yen|Yeb|Mar|Ibr|May|Yun|Yul|Ɣuc|Cut|Kṭu|Nwa|Duj" ∷
    utf8 "Yennayer|Yebrayer|Mars|Ibrir|Mayyu|Yunyu|Yulyuz|Ɣuct|Cutanbir|Kṭuber|Nwanbir|Dujanbir" ∷
    utf8 "Y|Y|M|I|M|Y|Y|Ɣ|C|K|N|D" ∷ utf8 "Asa|Ayn|Asn|Akr|Akw|Asm|Asḍ" ∷
    []

unfoldable pub texts_31 : List Text
texts_31 =
    utf8 "Asamas|Aynas|Asinas|Akras|Akwas|Asimwas|Asiḍyas" ∷ utf8 "A|A|A|A|A|A|A" ∷ utf8 "ZƐ|ḌƐ" ∷
    utf8 "Zdat Ɛisa (TAƔ)|Ḍeffir Ɛisa (TAƔ)" ∷ utf8 "Zdat azal|Ḍeffir aza" ∷ utf8 "y MMM G" ∷ utf8 "y d-MMM، E G" ∷
    utf8 "y d-MMM G" ∷ utf8 "d-M، E" ∷ utf8 "d-MMM، E" ∷ utf8 "y d-MMMM، EEEE" ∷ utf8 "d-MMMM، y" ∷ utf8 "y d-MMM" ∷
    utf8 "y-d-M، E" ∷ utf8 "y d-MMM، E" ∷ utf8 "y-d-M" ∷ utf8 "d-MMM، y" ∷
    utf8 "\u{626}\u{627}\u{64a}|\u{643}\u{6c8}\u{646}|\u{633}\u{627}\u{626}\u{6d5}\u{62a}|\u{645}\u{649}\u{646}\u{6c7}\u{62a}|\u{633}\u{6d0}\u{643}\u{6c7}\u{646}\u{62a}|\u{686}\u{6c8}\u{634}\u{62a}\u{649}\u{646} \u{628}\u{6c7}\u{631}\u{6c7}\u{646}/\u{686}\u{6c8}\u{634}\u{62a}\u{649}\u{646} \u{643}\u{6d0}\u{64a}\u{649}\u{646}" ∷
    utf8 "\u{64a}\u{627}\u{646}\u{6cb}\u{627}\u{631}|\u{641}\u{6d0}\u{6cb}\u{631}\u{627}\u{644}|\u{645}\u{627}\u{631}\u{62a}|\u{626}\u{627}\u{67e}\u{631}\u{6d0}\u{644}|\u{645}\u{627}\u{64a}|\u{626}\u{649}\u{64a}\u{6c7}\u{646}|\u{626}\u{649}\u{64a}\u{6c7}\u{644}|\u{626}\u{627}\u{6cb}\u{63a}\u{6c7}\u{633}\u{62a}|\u{633}\u{6d0}\u{646}\u{62a}\u{6d5}\u{628}\u{649}\u{631}|\u{626}\u{6c6}\u{643}\u{62a}\u{6d5}\u{628}\u{649}\u{631}|\u{646}\u{648}\u{64a}\u{627}\u{628}\u{649}\u{631}|\u{62f}\u{6d0}\u{643}\u{627}\u{628}\u{649}\u{631}" ∷
    utf8 "\u{64a}\u{6d5}|\u{62f}\u{6c8}|\u{633}\u{6d5}|\u{686}\u{627}|\u{67e}\u{6d5}|\u{62c}\u{6c8}|\u{634}\u{6d5}" ∷
    utf8 "\u{64a}\u{6d5}\u{643}\u{634}\u{6d5}\u{646}\u{628}\u{6d5}|\u{62f}\u{6c8}\u{634}\u{6d5}\u{646}\u{628}\u{6d5}|\u{633}\u{6d5}\u{64a}\u{634}\u{6d5}\u{646}\u{628}\u{6d5}|\u{686}\u{627}\u{631}\u{634}\u{6d5}\u{646}\u{628}\u{6d5}|\u{67e}\u{6d5}\u{64a}\u{634}\u{6d5}\u{646}\u{628}\u{6d5}|\u{62c}\u{6c8}\u{645}\u{6d5}|\u{634}\u{6d5}\u{646}\u{628}\u{6d5}" ∷
    utf8 "\u{64a}|\u{62f}|\u{633}|\u{686}|\u{67e}|\u{62c}|\u{634}" ∷
    utf8 "BCE|\u{645}\u{649}\u{644}\u{627}\u{62f}\u{649}\u{64a}\u{6d5}" ∷
    utf8 "\u{645}\u{649}\u{644}\u{627}\u{62f}\u{649}\u{64a}\u{6d5}\u{62f}\u{649}\u{646} \u{628}\u{6c7}\u{631}\u{6c7}\u{646}|\u{645}\u{649}\u{644}\u{627}\u{62f}\u{649}\u{64a}\u{6d5}" ∷
    utf8 "\u{686}.\u{628}|\u{686}.\u{643}" ∷
    utf8 "\u{686}\u{6c8}\u{634}\u{62a}\u{649}\u{646} \u{628}\u{6c7}\u{631}\u{6c7}\u{646}|\u{686}\u{6c8}\u{634}\u{62a}\u{649}\u{646} \u{643}\u{6d0}\u{64a}\u{649}\u{646}" ∷
    utf8 "\u{628}|\u{643}" ∷ utf8 "MM y G" ∷ utf8 "dd-MM-y, E, G" ∷ utf8 "LLL y 'р'. G" ∷ utf8 "E, d MMM y 'р'. G" ∷
    utf8 "d MMM y 'р'. G" ∷ utf8 "HH 'год' v" ∷ utf8 "EEEE, d MMMM y 'р'." ∷ utf8 "d MMMM y 'р'." ∷
    utf8 "d MMM y 'р'." ∷ utf8 "LLL y 'р'." ∷ utf8 "E, d MMM y 'р'." ∷ utf8 "LLLL y 'р'." ∷ utf8 "1 'о' 0" ∷
    utf8 "місяць|день|година|хвилина|секунда|дп/пп" ∷
    utf8 "січ.|лют.|бер.|квіт.|трав.|черв.|лип.|серп.|вер.|жовт.|лист.|груд." ∷
    utf8 "січня|лютого|березня|квітня|травня|червня|липня|серпня|вересня|жовтня|листопада|грудня" ∷
    utf8 "с|л|б|к|т|ч|л|с|в|ж|л|г" ∷
    utf8 "січень|лютий|березень|квітень|травень|червень|липень|серпень|вересень|жовтень|листопад|грудень" ∷
    utf8 "С|Л|Б|К|Т|Ч|Л|С|В|Ж|Л|Г" ∷ utf8 "неділя|понеділок|вівторок|середа|четвер|пʼятниця|субота" ∷
    utf8 "Н|П|В|С|Ч|П|С" ∷ utf8 "до н. е.|н. е." ∷ utf8 "до нашої ери|нашої ери" ∷ utf8 "до н.е.|н.е." ∷
    utf8 "дп|пп" ∷ utf8 "|дня|ранку|дня|вечора|ночі||||" ∷ utf8 "UTC|за всесвітнім координованим часом" ∷
    utf8 "E، d/M/y G" ∷ utf8 "E، d MMM، y G" ∷ utf8 "d MMM، y G" ∷ utf8 "E، d/M" ∷ utf8 "EEEE، d MMMM، y" ∷
    utf8 "d MMMM، y" ∷ utf8 "d MMM، y" ∷ utf8 "E، d MMM، y" ∷ utf8 "1 \u{6a9}\u{648} 0" ∷
    utf8 "\u{645}\u{6c1}\u{6cc}\u{646}\u{6c1}|\u{62f}\u{646}|\u{6af}\u{6be}\u{646}\u{679}\u{6c1}|\u{645}\u{646}\u{679}|\u{633}\u{6cc}\u{6a9}\u{646}\u{688}|\u{642}\u{628}\u{644} \u{62f}\u{648}\u{67e}\u{6c1}\u{631}/\u{628}\u{639}\u{62f} \u{62f}\u{648}\u{67e}\u{6c1}\u{631}" ∷
    utf8 "\u{62c}\u{646}\u{648}\u{631}\u{6cc}|\u{641}\u{631}\u{648}\u{631}\u{6cc}|\u{645}\u{627}\u{631}\u{686}|\u{627}\u{67e}\u{631}\u{6cc}\u{644}|\u{645}\u{626}\u{6cc}|\u{62c}\u{648}\u{646}|\u{62c}\u{648}\u{644}\u{627}\u{626}\u{6cc}|\u{627}\u{6af}\u{633}\u{62a}|\u{633}\u{62a}\u{645}\u{628}\u{631}|\u{627}\u{6a9}\u{62a}\u{648}\u{628}\u{631}|\u{646}\u{648}\u{645}\u{628}\u{631}|\u{62f}\u{633}\u{645}\u{628}\u{631}" ∷
    utf8 "\u{627}\u{62a}\u{648}\u{627}\u{631}|\u{67e}\u{6cc}\u{631}|\u{645}\u{646}\u{6af}\u{644}|\u{628}\u{62f}\u{6be}|\u{62c}\u{645}\u{639}\u{631}\u{627}\u{62a}|\u{62c}\u{645}\u{639}\u{6c1}|\u{6c1}\u{641}\u{62a}\u{6c1}" ∷
    utf8 "\u{642}\u{628}\u{644} \u{645}\u{633}\u{6cc}\u{62d}|\u{639}\u{6cc}\u{633}\u{648}\u{6cc}" ∷
    utf8 "555522222222333377445555" ∷
    utf8 "||\u{635}\u{628}\u{62d}|\u{62f}\u{648}\u{67e}\u{6c1}\u{631}|\u{634}\u{627}\u{645}|\u{631}\u{627}\u{62a}||\u{633}\u{6c1} \u{67e}\u{6c1}\u{631}||" ∷
    utf8 "||\u{635}\u{628}\u{62d} \u{645}\u{6cc}\u{6ba}|\u{62f}\u{648}\u{67e}\u{6c1}\u{631} \u{645}\u{6cc}\u{6ba}|\u{634}\u{627}\u{645} \u{645}\u{6cc}\u{6ba}|\u{631}\u{627}\u{62a} \u{645}\u{6cc}\u{6ba}||\u{633}\u{6c1} \u{67e}\u{6c1}\u{631}||" ∷
    utf8 "UTC|\u{6a9}\u{648}\u{622}\u{631}\u{688}\u{6cc}\u{646}\u{6cc}\u{679}\u{688} \u{6cc}\u{648}\u{646}\u{6cc}\u{648}\u{631}\u{633}\u{644} \u{679}\u{627}\u{626}\u{645}" ∷
    utf8 "E, d-MMM, G y" ∷ utf8 "d-MMM, G y" ∷ utf8 "E, d-MMM" ∷ utf8 "EEEE, d-MMMM, y" ∷ utf8 "d-MMMM, y" ∷
    utf8 "d-MMM, y" ∷ utf8 "E, d-MMM, y" ∷ utf8 "oy|kun|soat|daqiqa|soniya|TO/TK" ∷
    utf8 "yan|fev|mar|apr|may|iyn|iyl|avg|sen|okt|noy|dek" ∷
    utf8 "yanvar|fevral|mart|aprel|may|iyun|iyul|avgust|sentabr|oktabr|noyabr|dekabr" ∷
    utf8 "Y|F|M|A|M|I|I|A|S|O|N|D" ∷ utf8 "Yan|Fev|Mar|Apr|May|Iyn|Iyl|Avg|Sen|Okt|Noy|Dek" ∷
    utf8 "Yanvar|Fevral|Mart|Aprel|May|Iyun|Iyul|Avgust|Sentabr|Oktabr|Noyabr|Dekabr" ∷
    utf8 "Yak|Dush|Sesh|Chor|Pay|Jum|Shan" ∷ utf8 "yakshanba|dushanba|seshanba|chorshanba|payshanba|juma|shanba" ∷
    utf8 "Y|D|S|C|P|J|S" ∷ utf8 "m.a.|milodiy" ∷ utf8 "miloddan avvalgi|milodiy" ∷ utf8 "TO|TK" ∷
    utf8 "5555552222233333334444551" ∷ utf8 "|tush payti|ertalab|kunduzi|kechqurun|kechasi||||" ∷
    utf8 "UTC|Koordinatali universal vaqt" ∷ utf8 "ꕪꖃ|ꔎꔒ|ꕌꕎ|ꕆꕇ|ꕧꕃꕧꕪ|Dayperiod" ∷
    utf8 "ꖨꖕꔞ|ꕒꕡ|ꕾꖺ|ꖢꖕ|ꖑꕱ|ꖱꘋ|ꖱꕞ|ꗛꔕ|ꕢꕌ|ꕭꖃ|ꔞꘋ|ꖨꖕꗏ" ∷
    utf8 "ꖨꖕ ꕪꕴ ꔞꔀꕮꕊ|ꕒꕡꖝꖕ|ꕾꖺ|ꖢꖕ|ꖑꕱ|ꖱꘋ|ꖱꕞꔤ|ꗛꔕ|ꕢꕌ|ꕭꖃ|ꔞꘋꕔꕿ ꕸꖃꗏ|ꖨꖕ ꕪꕴ ꗏꖺꕮꕊ" ∷ utf8 "ꕞꕌꔵ|ꗳꗡꘉ|ꕚꕞꕚ|ꕉꕞꕒ|ꕉꔤꕆꕢ|ꕉꔤꕀꕮ|ꔻꔬꔳ" ∷
    utf8 "meze|dì|ora|menuto|segondo|AM/PM" ∷ utf8 "jen|feb|mar|apr|maj|jug|luj|ago|set|oto|nov|dez" ∷
    utf8 "jenaro|febraro|marso|aprile|majo|jugno|lujo|agosto|setenbre|otobre|novenbre|dezenbre" ∷
    utf8 "J|F|M|A|M|J|L|A|S|O|N|D" ∷ utf8 "dom|lun|mar|mer|zob|vèn|sab" ∷
    utf8 "doménega|luni|marti|mèrcore|zoba|vènare|sabo" ∷ utf8 "D|L|M|M|Z|V|S" ∷ utf8 "v.C.|d.C." ∷
    utf8 "vanti Cristo|daspò Cristo" ∷ utf8 "UTC|Ora universale coordenada" ∷ utf8 "h 'giờ' B" ∷ utf8 "h 'giờ' B E" ∷
    utf8 "h:mm B E" ∷ utf8 "h:mm:ss B E" ∷ utf8 "HH:mm E" ∷ utf8 "HH:mm:ss E" ∷ utf8 "E, 'ngày' d" ∷
    utf8 "h 'giờ' a E" ∷ utf8 "h:mm a E" ∷ utf8 "h:mm:ss a E" ∷ utf8 "HH 'giờ'" ∷ utf8 "h 'giờ' a v" ∷
    utf8 "'tháng' MM, y" ∷
    []

unfoldable pub texts_32 : List Text
texts_32 =
    utf8 "MMMM 'năm' y" ∷ utf8 "'lúc' 0 1" ∷ utf8 "Tháng|Ngày|Giờ|Phút|Giây|SA/CH" ∷
    utf8 "thg 1|thg 2|thg 3|thg 4|thg 5|thg 6|thg 7|thg 8|thg 9|thg 10|thg 11|thg 12" ∷
    utf8 "tháng 1|tháng 2|tháng 3|tháng 4|tháng 5|tháng 6|tháng 7|tháng 8|tháng 9|tháng 10|tháng 11|tháng 12" ∷
    utf8 "Tháng 1|Tháng 2|Tháng 3|Tháng 4|Tháng 5|Tháng 6|Tháng 7|Tháng 8|Tháng 9|Tháng 10|Tháng 11|Tháng 12" ∷
    utf8 "CN|Thứ 2|Thứ 3|Thứ 4|Thứ 5|Thứ 6|Thứ 7" ∷ utf8 "Chủ Nhật|Thứ Hai|Thứ Ba|Thứ Tư|Thứ Năm|Thứ Sáu|Thứ Bảy" ∷
    utf8 "CN|T2|T3|T4|T5|T6|T7" ∷ utf8 "TCN|SCN" ∷ utf8 "Trước Chúa Giáng Sinh|Sau Công Nguyên" ∷ utf8 "TCN|CN" ∷
    utf8 "SA|CH" ∷ utf8 "s|c" ∷ utf8 "|TR|sáng|chiều|tối|đêm||||" ∷ utf8 "|trưa|sáng|chiều|tối|đêm||||" ∷
    utf8 "|tr|sáng|chiều|tối|đêm||||" ∷ utf8 "UTC|Giờ Phối hợp Quốc tế" ∷
    utf8 "janeiru|fevereiru|marsu|abril|maiu|junyu|julyu|agostu|setembru|outubru|novembru|dezembru" ∷
    utf8 "ettiminku|nihiku noolempwa|namaanli|namararu|namaxexe|namathanu|esaabadu" ∷ utf8 "vaasisu|makaaripi" ∷
    utf8 "Mánet|Tag|Schtund|Mínütta|Sekunda|AM/PM" ∷ utf8 "Jen|Hor|Mär|Abr|Mei|Brá|Hei|Öig|Her|Wím|Win|Chr" ∷
    utf8 "Jenner|Hornig|Märze|Abrille|Meije|Bráčet|Heiwet|Öigšte|Herbštmánet|Wímánet|Wintermánet|Chrištmánet" ∷
    utf8 "J|H|M|A|M|B|H|Ö|H|W|W|C" ∷ utf8 "Sun|Män|Ziš|Mit|Fró|Fri|Sam" ∷
    utf8 "Sunntag|Mäntag|Zištag|Mittwuč|Fróntag|Fritag|Samštag" ∷ utf8 "S|M|Z|M|F|F|S" ∷ utf8 "v. Chr.|n. Chr" ∷
    utf8 "EEEE, d MMM, y" ∷ utf8 "1 'ci' 0" ∷ utf8 "1 - 0" ∷ utf8 "weer|fan|waxt|simili|saa|Sub/Ngo" ∷
    utf8 "Sam|Few|Mar|Awr|Mee|Suw|Sul|Ut|Sàt|Okt|Now|Des" ∷
    utf8 "Samwiyee|Fewriyee|Mars|Awril|Mee|Suwe|Sulet|Ut|Sàttumbar|Oktoobar|Nowàmbar|Desàmbar" ∷
    utf8 "Dib|Alt|Tal|Àla|Alx|Àjj|Ase" ∷ utf8 "Dibéer|Altine|Talaata|Àlarba|Alxamis|Àjjuma|Aseer" ∷ utf8 "JC|AD" ∷
    utf8 "av. JC|AD" ∷ utf8 "Sub|Ngo" ∷ utf8 "UTC|CUT (waxtu iniwelsel yuñ boole)" ∷ utf8 "1 'ngo' 0" ∷
    utf8 "inyanga|usuku|iyure|umzuzu|umzuzwana|Kusasa/Emva kwemini" ∷
    utf8 "Jan|Feb|Mat|Epr|Mey|Jun|Jul|Aga|Sept|Okt|Nov|Dis" ∷
    utf8 "Janyuwari|Februwari|Matshi|Epreli|Meyi|Juni|Julayi|Agasti|Septemba|Okthobha|Novemba|Disemba" ∷
    utf8 "Jan|Feb|Mat|Epr|Mey|Jun|Jul|Aga|Sep|Okt|Nov|Dis" ∷
    utf8 "Janyuwari|Februwari|Matshi|Epreli|Meyi|Juni|Julayi|Agasti|Septemba|Okthoba|Novemba|Disemba" ∷
    utf8 "Caw|Mvu|Lwesb|Tha|Sin|Hla|Mgq" ∷ utf8 "Cawe|Mvulo|Lwesibini|Lwesithathu|Lwesine|Lwesihlanu|Mgqibelo" ∷
    utf8 "C|Mv|Sb|Tht|Sin|Hl|Mg" ∷ utf8 "Caw|Mvu|Bin|Tha|Sin|Hla|Mgq" ∷ utf8 "C|Mv|Sb|St|Sin|Hl|Mg" ∷
    utf8 "Phambi KoKristu|Anno Domino" ∷
    utf8 "मीन्ना|ध्याड़ा|घंटा|मिंट|सकिंट|भ्यागा/संजा" ∷
    utf8 "जनवरी|फ़रवरी|मार्च|अप्रैल|मई|जून|जुलाई|अगस्त|सितंबर|अक्तूबर|नवंबर|दिसंबर" ∷
    utf8 "तोआर|सोआर|मंगल|बुध|वीर|शुक्कर|शनि" ∷
    utf8 "तोआर|सोआर|मंगलवार|बुधवार|वीरवार|शुक्करवार|शनिच्चरवार" ∷
    utf8 "त|सो|मं|बु|वी|शु|श" ∷ utf8 "ईसा-पैले|ईस्वी" ∷
    utf8 "ईसा-पैले|ईसवी सन" ∷
    utf8 "भ्यागा|दपेहरा/संजा" ∷
    utf8 "ग्री॰ मै॰ टै॰||+||-||:" ∷
    utf8 "UTC|समन्वित दुनिया दा टैम" ∷
    utf8 "Omwezi|Olunaku|Essawa|Edakiika|Obutikitiki|munkyo/Eigulo" ∷ utf8 "Sabi|Bala|Kubi|Kusa|Kuna|Kuta|Muka" ∷
    utf8 "Sabiiti|Balaza|Owokubili|Owokusatu|Olokuna|Olokutaanu|Olomukaaga" ∷ utf8 "S|B|B|S|K|K|M" ∷ utf8 "AZ|AF" ∷
    utf8 "Kulisto nga azilawo|Kulisto nga affile" ∷ utf8 "Munkyo|Eigulo" ∷
    utf8 "oóli|puɔ́sɛ́|kisikɛl,|minít|síkɛn|kiɛmɛ́ɛm,kisɛ́ndɛ" ∷
    utf8 "o.1|o.2|o.3|o.4|o.5|o.6|o.7|o.8|o.9|o.10|o.11|o.12" ∷
    utf8 "pikítíkítie, oólí ú kutúan|siɛyɛ́, oóli ú kándíɛ|ɔnsúmbɔl, oóli ú kátátúɛ|mesiŋ, oóli ú kénie|ensil, oóli ú kátánuɛ|ɔsɔn|efute|pisuyú|imɛŋ i puɔs|imɛŋ i putúk,oóli ú kátíɛ|makandikɛ|pilɔndɔ́" ∷
    utf8 "sd|md|mw|et|kl|fl|ss" ∷
    utf8 "sɔ́ndiɛ|móndie|muányáŋmóndie|metúkpíápɛ|kúpélimetúkpiapɛ|feléte|séselé" ∷ utf8 "s|m|m|e|k|f|s" ∷
    utf8 "k.Y.|+J.C." ∷ utf8 "katikupíen Yésuse|ékélémkúnupíén n" ∷ utf8 "kiɛmɛ́ɛm|kisɛ́ndɛ" ∷
    utf8 "E \u{5d3}\u{5e2}\u{5dd} d\u{5d8}\u{5df}" ∷ utf8 "E \u{5d3}\u{5e2}\u{5dd} d\u{5d8}\u{5df} MMM yG" ∷
    utf8 "d\u{5d8}\u{5df} MMM y G" ∷ utf8 "EEEE, d\u{5d8}\u{5df} MMMM y" ∷ utf8 "d\u{5d8}\u{5df} MMMM y" ∷
    utf8 "d\u{5d8}\u{5df} MMM y" ∷ utf8 "E, d\u{5d8}\u{5df} MMM y" ∷
    utf8 "\u{5de}\u{5d0}\u{5e0}\u{5d0}ַ\u{5d8}|\u{5d8}\u{5d0}ָ\u{5d2}|\u{5e9}\u{5e2}\u{5d4}|\u{5de}\u{5d9}\u{5e0}\u{5d5}\u{5d8}|\u{5e1}\u{5e2}\u{5e7}\u{5d5}\u{5e0}\u{5d3}\u{5e2}|Dayperiod" ∷
    utf8 "\u{5d9}\u{5d0}ַ\u{5e0}\u{5d5}\u{5d0}ַ\u{5e8}|\u{5e4}ֿ\u{5e2}\u{5d1}\u{5e8}\u{5d5}\u{5d0}ַ\u{5e8}|\u{5de}\u{5e2}\u{5e8}\u{5e5}|\u{5d0}ַ\u{5e4}ּ\u{5e8}\u{5d9}\u{5dc}|\u{5de}\u{5d9}\u{5d9}|\u{5d9}\u{5d5}\u{5e0}\u{5d9}|\u{5d9}\u{5d5}\u{5dc}\u{5d9}|\u{5d0}\u{5d5}\u{5d9}\u{5d2}\u{5d5}\u{5e1}\u{5d8}|\u{5e1}\u{5e2}\u{5e4}ּ\u{5d8}\u{5e2}\u{5de}\u{5d1}\u{5e2}\u{5e8}|\u{5d0}\u{5e7}\u{5d8}\u{5d0}\u{5d1}\u{5e2}\u{5e8}|\u{5e0}\u{5d0}\u{5d5}\u{5d5}\u{5e2}\u{5de}\u{5d1}\u{5e2}\u{5e8}|\u{5d3}\u{5e2}\u{5e6}\u{5e2}\u{5de}\u{5d1}\u{5e2}\u{5e8}" ∷
    utf8 "\u{5d9}\u{5d0}ַ\u{5e0}|\u{5e4}ֿ\u{5e2}\u{5d1}|\u{5de}\u{5e2}\u{5e8}\u{5e5}|\u{5d0}ַ\u{5e4}ּ\u{5e8}|\u{5de}\u{5d9}\u{5d9}|\u{5d9}\u{5d5}\u{5e0}\u{5d9}|\u{5d9}\u{5d5}\u{5dc}\u{5d9}|\u{5d0}\u{5d5}\u{5d9}\u{5d2}|\u{5e1}\u{5e2}\u{5e4}ּ|\u{5d0}\u{5e7}\u{5d8}|\u{5e0}\u{5d0}\u{5d5}\u{5d5}|\u{5d3}\u{5e2}\u{5e6}" ∷
    utf8 "\u{5d6}\u{5d5}\u{5e0}\u{5d8}\u{5d9}\u{5e7}|\u{5de}\u{5d0}ָ\u{5e0}\u{5d8}\u{5d9}\u{5e7}|\u{5d3}\u{5d9}\u{5e0}\u{5e1}\u{5d8}\u{5d9}\u{5e7}|\u{5de}\u{5d9}\u{5d8}\u{5d5}\u{5d5}\u{5d0}\u{5da}|\u{5d3}\u{5d0}\u{5e0}\u{5e2}\u{5e8}\u{5e9}\u{5d8}\u{5d9}\u{5e7}|\u{5e4}ֿ\u{5e8}\u{5f2}ַ\u{5d8}\u{5d9}\u{5e7}|\u{5e9}\u{5d1}\u{5ea}" ∷
    utf8 "\u{5e4}ֿ\u{5d0}ַ\u{5e8}\u{5de}\u{5d9}\u{5d8}\u{5d0}ָ\u{5d2}|\u{5e0}\u{5d0}ָ\u{5db}\u{5de}\u{5d9}\u{5d8}\u{5d0}ָ\u{5d2}" ∷
    utf8 "d, MMMM E" ∷ utf8 "EEEE, d MMM y" ∷ utf8 "d MM y" ∷ utf8 "E, d MMM , y" ∷ utf8 "H:m:s" ∷ utf8 "H:m" ∷
    utf8 "1 'ní' 0" ∷ utf8 "Osù|Ọjọ́|Wákàtí|Ìsẹ́jú|Ìsẹ́jú Ààyá|Àárọ̀/ọ̀sán" ∷
    utf8 "Oṣù Ṣẹ́rẹ́|Oṣù Èrèlè|Oṣù Ẹrẹ̀nà|Oṣù Ìgbé|Oṣù Ẹ̀bibi|Oṣù Òkúdu|Oṣù Agẹmọ|Oṣù Ògún|Oṣù Owewe|Oṣù Ọ̀wàrà|Oṣù Bélú|Oṣù Ọ̀pẹ̀" ∷
    utf8 "S|È|Ẹ|Ì|Ẹ̀|Ò|A|Ò|O|Ọ̀|B|Ọ̀" ∷
    utf8 "Àìkú|Ajé|Ìsẹ́gun|Ọjọ́rú|Ọjọ́bọ|Ẹtì|Àbámẹ́ta" ∷
    utf8 "Ọjọ́ Àìkú|Ọjọ́ Ajé|Ọjọ́ Ìsẹ́gun|Ọjọ́rú|Ọjọ́bọ|Ọjọ́ Ẹtì|Ọjọ́ Àbámẹ́ta" ∷
    utf8 "À|A|Ì|Ọ|Ọ|Ẹ|À" ∷ utf8 "BCE|AD" ∷ utf8 "Saju Kristi|Lehin Kristi" ∷ utf8 "Àárọ̀|Ọ̀sán" ∷
    utf8 "WAT||+||-||:" ∷ utf8 "UTC|Àpapọ̀ Àkókò Àgbáyé" ∷ utf8 "yasí|ara|hura|minutu|segũdu|AM/PM" ∷
    utf8 "ye|mk|ms|id|pu|py|pm|ps|pi|yp|yy|ym" ∷
    utf8 "yepé|mukũi|musapíri|irũdí|pú|pú-yepé|pú-mukũi|pú-musapíri|pú-irũdí|yepé-putimaã|yepé-yepé|yepé-mukũi" ∷
    utf8 "Y|M|M|I|P|P|P|P|P|Y|Y|Y" ∷ utf8 "mit|mur|mmk|mms|sup|yuk|sau" ∷
    utf8 "mituú|murakipí|murakí-mukũi|murakí-musapíri|supapá|yukuakú|saurú" ∷ utf8 "M|M|M|M|S|Y|S" ∷
    utf8 "K.s.|K.a." ∷ utf8 "Kiristu senũdé|Kiristu ariré" ∷
    utf8 "|iandé-ara-pyturepé|kuêma ramẽ|karuka ramẽ|pituna ramẽ|pitunaeté ramẽ||||" ∷
    utf8 "UTC|Hurariyu Mũdi turususawa Kurdenadu" ∷
    []

unfoldable pub texts_33 : List Text
texts_33 =
    utf8 "Bh點" ∷ utf8 "Bh:mm" ∷ utf8 "Bh:mm:ss" ∷ utf8 "EBh點" ∷ utf8 "E Bh:mm" ∷ utf8 "E Bh:mm:ss" ∷ utf8 "Eah 點" ∷
    utf8 "E ah:mm" ∷ utf8 "E ah:mm:ss" ∷ utf8 "GM/y" ∷ utf8 "Gd/M/y (E)" ∷ utf8 "Gy年M月d日 E" ∷ utf8 "Gd/M/y" ∷
    utf8 "H點" ∷ utf8 "HH:mm:ss [v]" ∷ utf8 "HH:mm [v]" ∷ utf8 "HH點 (v)" ∷ utf8 "M/d（E）" ∷ utf8 "M月d日 E" ∷
    utf8 "MM/dd" ∷ utf8 "ah:mm:ss [zzzz]" ∷ utf8 "ah:mm:ss [z]" ∷ utf8 "ah時" ∷ utf8 "ah:mm:ss [v]" ∷
    utf8 "ah:mm [v]" ∷ utf8 "ah點 (v)" ∷ utf8 "y年M月d日 EEEE" ∷ utf8 "y/M/d（E）" ∷ utf8 "y年M月d日 E" ∷ utf8 "1\u{2009}0" ∷
    utf8 "月|日|小時|分鐘|秒|上午/下午" ∷ utf8 "星期日|星期一|星期二|星期三|星期四|星期五|星期六" ∷ utf8 "日|一|二|三|四|五|六" ∷ utf8 "西元前|西元" ∷
    utf8 "上晝|下晝" ∷ utf8 "555552226666377777744444" ∷ utf8 "||清晨|中午|夜晚|凌晨|朝早|下晝||" ∷ utf8 "UTC|協調世界時間" ∷
    utf8 "'bi' y 'ndwen' M 'ngoenz' d" ∷
    utf8 "ndwenit|ndwenngeih|ndwensam|ndwenseiq|ndwenngux|ndwenloeg|ndwencaet|ndwenbet|ndwengouj|ndwencib|ndwencib’it|ndwencibngeih" ∷
    utf8 "ngoenzsinghgiz|singhgizit|singhgizngeih|singhgizsam|singhgizseiq|singhgizhaj|singhgizroek" ∷
    utf8 "banhaet|banringzgvaq" ∷ utf8 "ⴰⵙⴰⵎⴰⵙ|ⴰⵢⵏⴰⵙ|ⴰⵙⵉⵏⴰⵙ|ⴰⴽⵕⴰⵙ|ⴰⴽⵡⴰⵙ|ⴰⵙⵉⵎⵡⴰⵙ|ⴰⵙⵉⴹⵢⴰⵙ" ∷ utf8 "Bh时" ∷ utf8 "EBh时" ∷
    utf8 "EBh:mm" ∷ utf8 "EBh:mm:ss" ∷ utf8 "EHH:mm" ∷ utf8 "EHH:mm:ss" ∷ utf8 "d日E" ∷ utf8 "Eah时" ∷ utf8 "Eah:mm" ∷
    utf8 "Eah:mm:ss" ∷ utf8 "Gy-MM-ddE" ∷ utf8 "Gy年M月d日E" ∷ utf8 "Gy-MM-dd" ∷ utf8 "H时" ∷ utf8 "vHH:mm:ss" ∷
    utf8 "vH时" ∷ utf8 "M/dE" ∷ utf8 "M月d日E" ∷ utf8 "ah时" ∷ utf8 "vah:mm:ss" ∷ utf8 "vah:mm" ∷ utf8 "vah时" ∷
    utf8 "y/M/dE" ∷ utf8 "y年M月d日E" ∷ utf8 "10" ∷ utf8 "月|日|小时|分钟|秒|上午/下午" ∷
    utf8 "一月|二月|三月|四月|五月|六月|七月|八月|九月|十月|十一月|十二月" ∷ utf8 "周日|周一|周二|周三|周四|周五|周六" ∷ utf8 "公元前|公元" ∷ utf8 "上午|下午" ∷
    utf8 "||早上|中午|晚上|凌晨|上午|下午||" ∷ utf8 "||清晨|中午|晚上|凌晨|上午|下午||" ∷ utf8 "UTC|协调世界时" ∷
    utf8 "Inyanga|Usuku|Ihora|Iminithi|Isekhondi|AM/PM" ∷ utf8 "Jan|Feb|Mas|Eph|Mey|Jun|Jul|Aga|Sep|Okt|Nov|Dis" ∷
    utf8 "Januwari|Februwari|Mashi|Ephreli|Meyi|Juni|Julayi|Agasti|Septhemba|Okthoba|Novemba|Disemba" ∷
    utf8 "J|F|M|E|M|J|J|A|S|O|N|D" ∷ utf8 "Son|Mso|Bil|Tha|Sin|Hla|Mgq" ∷
    utf8 "ISonto|UMsombuluko|ULwesibili|ULwesithathu|ULwesine|ULwesihlanu|UMgqibelo" ∷ utf8 "S|M|B|T|S|H|M" ∷
    utf8 "222222666633344444455555" ∷ utf8 "||entathakusa|emini|ntambama|ebusuku|ekuseni|||" ∷
    utf8 "UTC|isikhathi somhlaba esididiyelwe" ∷
    utf8 "\u{62c}\u{627}\u{646}\u{641}\u{64a}|\u{641}\u{64a}\u{641}\u{631}\u{64a}|\u{645}\u{627}\u{631}\u{633}|\u{623}\u{641}\u{631}\u{64a}\u{644}|\u{645}\u{627}\u{64a}|\u{62c}\u{648}\u{627}\u{646}|\u{62c}\u{648}\u{64a}\u{644}\u{64a}\u{629}|\u{623}\u{648}\u{62a}|\u{633}\u{628}\u{62a}\u{645}\u{628}\u{631}|\u{623}\u{643}\u{62a}\u{648}\u{628}\u{631}|\u{646}\u{648}\u{641}\u{645}\u{628}\u{631}|\u{62f}\u{64a}\u{633}\u{645}\u{628}\u{631}" ∷
    utf8 "\u{62c}|\u{641}|\u{645}|\u{623}|\u{645}|\u{62c}|\u{62c}|\u{623}|\u{633}|\u{623}|\u{646}|\u{62f}" ∷
    utf8 "\u{643}\u{627}\u{646}\u{648}\u{646} \u{627}\u{644}\u{62b}\u{627}\u{646}\u{64a}|\u{634}\u{628}\u{627}\u{637}|\u{622}\u{630}\u{627}\u{631}|\u{646}\u{64a}\u{633}\u{627}\u{646}|\u{623}\u{64a}\u{627}\u{631}|\u{62d}\u{632}\u{64a}\u{631}\u{627}\u{646}|\u{62a}\u{645}\u{648}\u{632}|\u{622}\u{628}|\u{623}\u{64a}\u{644}\u{648}\u{644}|\u{62a}\u{634}\u{631}\u{64a}\u{646}\u{a0}\u{627}\u{644}\u{623}\u{648}\u{644}|\u{62a}\u{634}\u{631}\u{64a}\u{646} \u{627}\u{644}\u{62b}\u{627}\u{646}\u{64a}|\u{643}\u{627}\u{646}\u{648}\u{646} \u{627}\u{644}\u{623}\u{648}\u{644}" ∷
    utf8 "\u{643}\u{627}\u{646}\u{648}\u{646} \u{627}\u{644}\u{62b}\u{627}\u{646}\u{64a}|\u{634}\u{628}\u{627}\u{637}|\u{622}\u{630}\u{627}\u{631}|\u{646}\u{64a}\u{633}\u{627}\u{646}|\u{623}\u{64a}\u{627}\u{631}|\u{62d}\u{632}\u{64a}\u{631}\u{627}\u{646}|\u{62a}\u{645}\u{648}\u{632}|\u{622}\u{628}|\u{623}\u{64a}\u{644}\u{648}\u{644}|\u{62a}\u{634}\u{631}\u{64a}\u{646} \u{627}\u{644}\u{623}\u{648}\u{644}|\u{62a}\u{634}\u{631}\u{64a}\u{646} \u{627}\u{644}\u{62b}\u{627}\u{646}\u{64a}|\u{643}\u{627}\u{646}\u{648}\u{646} \u{627}\u{644}\u{623}\u{648}\u{644}" ∷
    utf8 "\u{643}|\u{634}|\u{622}|\u{646}|\u{623}|\u{62d}|\u{62a}|\u{622}|\u{623}|\u{62a}|\u{62a}|\u{643}" ∷
    utf8 "||\u{641}\u{62c}\u{631}ً\u{627}|\u{638}\u{647}\u{631}ً\u{627}|\u{645}\u{633}\u{627}\u{621}ً|\u{641}\u{64a} \u{627}\u{644}\u{645}\u{633}\u{627}\u{621}|\u{635}|\u{628}\u{639}\u{62f} \u{627}\u{644}\u{638}\u{647}\u{631}||\u{644}" ∷
    utf8 "\u{64a}\u{646}\u{627}\u{64a}\u{631}|\u{641}\u{628}\u{631}\u{627}\u{64a}\u{631}|\u{645}\u{627}\u{631}\u{633}|\u{623}\u{628}\u{631}\u{64a}\u{644}|\u{645}\u{627}\u{64a}|\u{64a}\u{648}\u{646}\u{64a}\u{648}|\u{64a}\u{648}\u{644}\u{64a}\u{648}\u{632}|\u{63a}\u{634}\u{62a}|\u{634}\u{62a}\u{646}\u{628}\u{631}|\u{623}\u{643}\u{62a}\u{648}\u{628}\u{631}|\u{646}\u{648}\u{646}\u{628}\u{631}|\u{62f}\u{62c}\u{646}\u{628}\u{631}" ∷
    utf8 "\u{64a}|\u{641}|\u{645}|\u{623}|\u{645}|\u{646}|\u{644}|\u{63a}|\u{634}|\u{643}|\u{628}|\u{62f}" ∷
    utf8 "\u{64a}\u{646}\u{627}\u{64a}\u{631}|\u{641}\u{628}\u{631}\u{627}\u{64a}\u{631}|\u{645}\u{627}\u{631}\u{633}|\u{625}\u{628}\u{631}\u{64a}\u{644}|\u{645}\u{627}\u{64a}\u{648}|\u{64a}\u{648}\u{646}\u{64a}\u{648}|\u{64a}\u{648}\u{644}\u{64a}\u{648}|\u{623}\u{63a}\u{634}\u{62a}|\u{634}\u{62a}\u{645}\u{628}\u{631}|\u{623}\u{643}\u{62a}\u{648}\u{628}\u{631}|\u{646}\u{648}\u{641}\u{645}\u{628}\u{631}|\u{62f}\u{62c}\u{645}\u{628}\u{631}" ∷
    utf8 "\u{64a}|\u{641}|\u{645}|\u{625}|\u{648}|\u{646}|\u{644}|\u{63a}|\u{634}|\u{643}|\u{628}|\u{62f}" ∷
    utf8 "јан|фев|мар|апр|май|ијн|ијл|авг|сен|окт|ној|дек" ∷
    utf8 "јанвар|феврал|март|апрел|май|ијун|ијул|август|сентјабр|октјабр|нојабр|декабр" ∷
    utf8 "Јанвар|Феврал|Март|Апрел|Май|Ијун|Ијул|Август|Сентјабр|Октјабр|Нојабр|Декабр" ∷
    utf8 "Б.|Б.Е.|Ч.А.|Ч.|Ҹ.А.|Ҹ.|Ш." ∷ utf8 "базар|базар ертәси|чәршәнбә ахшамы|чәршәнбә|ҹүмә ахшамы|ҹүмә|шәнбә" ∷
    utf8 "е.ә.|ј.е." ∷ utf8 "ерамыздан әввәл|јени ера" ∷ utf8 "АМ|ПМ" ∷ utf8 "а|п" ∷
    utf8 "|ҝүнорта|сүбһ|ҝүндүз|ахшамүстү|ахшам|сәһәр|||ҝеҹә" ∷ utf8 "|ҝ|сүбһ|ҝүндүз|ахшамүстү|ахшам|сәһәр|||ҝеҹә" ∷
    utf8 "জানু|ফেব|মার্চ|এপ্রি|মে|জুন|জুল|আগ|সেপ্টেঃ|অক্টোঃ|নভেঃ|ডিসেঃ" ∷
    utf8 "জা|ফে|মা|এ|মে|জুন|জুল|আ|সে|অ|ন|ডি" ∷
    utf8 "জানু|ফেব|মার্চ|এপ্রিল|মে|জুন|জুলাই|আগস্ট|সেপ্টেঃ|অক্টোঃ|নভেঃ|ডিসেঃ" ∷
    utf8 "খ্রিঃপূঃ|খ্রিঃ" ∷
    utf8 "খ্রিঃপূঃ|খ্রিষ্টাব্দ" ∷
    utf8 "||ভোরবেলায়|দুপুরবেলায়|সন্ধ্যাবেলায়|রাত্রি|সকালবেলায়|বিকাল||" ∷
    utf8 "E, dd. MMM y. G" ∷ utf8 "dd. MMM y. G" ∷ utf8 "E, dd. MMM" ∷ utf8 "dd. MMM" ∷ utf8 "EEEE, dd. MMMM y." ∷
    utf8 "dd. MMMM y." ∷ utf8 "E, dd.MM.y." ∷
    []

unfoldable pub texts_34 : List Text
texts_34 =
    utf8 "E, dd. MMM y." ∷ utf8 "dd. MMM y." ∷ utf8 "d.M.yy." ∷
    utf8 "мјесец|дан|сат|минут|секунд|прије подне/послије подне" ∷
    utf8 "јан|феб|мар|апр|мај|јун|јул|ауг|сеп|окт|нов|дец" ∷
    utf8 "јануар|фебруар|март|април|мај|јуни|јули|аугуст|септембар|октобар|новембар|децембар" ∷
    utf8 "нед|пон|уто|сри|чет|пет|суб" ∷ utf8 "недјеља|понедјељак|уторак|сриједа|четвртак|петак|субота" ∷
    utf8 "прије нове ере|нове ере" ∷ utf8 "пре подне|поподне" ∷ utf8 "прије подне|послије подне" ∷
    utf8 "|подне|ујутру|у подне|увече|ноћу||||" ∷ utf8 "UTC|Координисано универзално вријеме" ∷
    utf8 "Jän.|Feb.|März|Apr.|Mai|Juni|Juli|Aug.|Sep.|Okt.|Nov.|Dez." ∷
    utf8 "Jänner|Februar|März|April|Mai|Juni|Juli|August|September|Oktober|November|Dezember" ∷
    utf8 "Jän|Feb|Mär|Apr|Mai|Jun|Jul|Aug|Sep|Okt|Nov|Dez" ∷ utf8 "E, MM.dd.y G" ∷ utf8 "vorm.|nachm." ∷
    utf8 "month|day|hour|minute|second|am/pm" ∷ utf8 "Jan|Feb|Mar|Apr|May|Jun|Jul|Aug|Sept|Oct|Nov|Dec" ∷
    utf8 "EEEE d MMM y G" ∷ utf8 "EEEE d MMM" ∷ utf8 "EEEE d MMMM" ∷
    utf8 "Jan|Feb|Mar|Apr|May|June|July|Aug|Sept|Oct|Nov|Dec" ∷ utf8 "Su.|M.|Tu.|W.|Th.|F.|Sa." ∷
    utf8 "|midday|in the morning|in the afternoon|in the evening|at night||||" ∷ utf8 "E, dd MMM y G" ∷
    utf8 "E, dd MMM" ∷ utf8 "dd MMM" ∷ utf8 "E, dd MMM y" ∷ utf8 "month|day|hour|minute|second|a.m./p.m." ∷
    utf8 "|n|mor|aft|eve|night||||" ∷ utf8 "EEEE, d MMM y G" ∷ utf8 "EEEE, d MMM" ∷ utf8 "EEEE, d MMMM" ∷
    utf8 "y/MM/dd G" ∷ utf8 "E, y/MM/dd" ∷ utf8 "dd MMM,y" ∷ utf8 "E, dd MMM, y" ∷ utf8 "dd MMM, y" ∷
    utf8 "E, MM/dd" ∷ utf8 "HH:mm:ss vvvv" ∷ utf8 "dd-MMM" ∷ utf8 "hh:mm:ss" ∷
    utf8 "|mediodía|madrugada||tarde|noche|mañana|||" ∷ utf8 "d MMM 'de' y" ∷
    utf8 "ene.|feb.|mar.|abr.|may.|jun.|jul.|ago.|sept.|oct.|nov.|dic." ∷ utf8 "E, d MMM 'de' y G" ∷
    utf8 "D|L|M|m|J|V|S" ∷ utf8 "6666666666664444444455551" ∷ utf8 "|m.|||de la tarde|de la noche|de la mañana|||" ∷
    utf8 "Mes|Día|hora|Minuto|Segundo|a.\u{a0}m./p.\u{a0}m." ∷ utf8 "|mediodía|día||tarde|noche|mañana|||" ∷
    utf8 "EEEE dd 'de' MMMM 'de' y" ∷ utf8 "dd 'de' MMMM 'de' y" ∷ utf8 "EEE, d 'de' MMM 'de' y" ∷
    utf8 "ene|feb|mar|abr|may|jun|jul|ago|sep|oct|nov|dic" ∷ utf8 "MM/dd/y" ∷ utf8 "E MM/dd/y" ∷ utf8 "MM/dd/yy" ∷
    utf8 "|mediodía|de la madrugada||de la tarde|de la noche|de la mañana|||" ∷
    utf8 "ene.|feb.|mar.|abr.|may.|jun.|jul.|ago.|set.|oct.|nov.|dic." ∷
    utf8 "enero|febrero|marzo|abril|mayo|junio|julio|agosto|setiembre|octubre|noviembre|diciembre" ∷
    utf8 "Ene.|Feb.|Mar.|Abr.|May.|Jun.|Jul.|Ago.|Set.|Oct.|Nov.|Dic." ∷
    utf8 "\u{62c}\u{646}\u{648}|\u{641}\u{628}\u{631}\u{648}\u{631}\u{6cc}|\u{645}\u{627}\u{631}\u{686}|\u{627}\u{67e}\u{631}\u{6cc}\u{644}|\u{645}\u{6cc}|\u{62c}\u{648}\u{646}|\u{62c}\u{648}\u{644}|\u{627}\u{6af}\u{633}\u{62a}|\u{633}\u{67e}\u{62a}\u{645}\u{628}\u{631}|\u{627}\u{6a9}\u{62a}\u{648}\u{628}\u{631}|\u{646}\u{648}\u{645}\u{628}\u{631}|\u{62f}\u{633}\u{645}" ∷
    utf8 "\u{62c}\u{646}\u{648}\u{631}\u{6cc}|\u{641}\u{628}\u{631}\u{648}\u{631}\u{6cc}|\u{645}\u{627}\u{631}\u{686}|\u{627}\u{67e}\u{631}\u{6cc}\u{644}|\u{645}\u{6cc}|\u{62c}\u{648}\u{646}|\u{62c}\u{648}\u{644}\u{627}\u{6cc}|\u{627}\u{6af}\u{633}\u{62a}|\u{633}\u{67e}\u{62a}\u{645}\u{628}\u{631}|\u{627}\u{6a9}\u{62a}\u{648}\u{628}\u{631}|\u{646}\u{648}\u{645}\u{628}\u{631}|\u{62f}\u{633}\u{645}\u{628}\u{631}" ∷
    utf8 "||\u{628}\u{627}\u{645}\u{62f}\u{627}\u{62f}|\u{638}\u{647}\u{631}||\u{634}\u{628}|\u{635}\u{628}\u{62d}|\u{628}\u{639}\u{62f}\u{627}\u{632}\u{686}\u{627}\u{634}\u{62a}||\u{646}\u{6cc}\u{645}\u{647}\u{200c}\u{634}\u{628}" ∷
    utf8 "E⹁ d MMM⹁ y G" ∷ utf8 "d MMM⹁ y G" ∷ utf8 "d-M-y GGGGG" ∷ utf8 "EEEE d MMMM⹁ y" ∷ utf8 "d MMMM⹁ y" ∷
    utf8 "d MMM⹁ y" ∷ utf8 "E⹁ d-M-y" ∷ utf8 "E⹁ d MMM⹁ y" ∷ utf8 "1 \u{1e909} 0" ∷
    utf8 "\u{1e924}\u{1e92b}\u{1e931}\u{1e92a}\u{1e935}|\u{1e93b}\u{1e922}\u{1e924}\u{1e922}𞥄\u{1e932}\u{1e923}\u{1e92b}|\u{1e932}\u{1e936}\u{1e922}\u{1e925}\u{1e923}\u{1e92d}|\u{1e938}\u{1e92e}\u{1e936}\u{1e92e}\u{1e925}\u{1e922}𞥄\u{1e92a}\u{1e92b}|\u{1e933}\u{1e92d}\u{1e932}\u{1e930}\u{1e92b}\u{1e92a}\u{1e92b}|\u{1e900}\u{1e90e}/\u{1e907}\u{1e90e}" ∷
    utf8 "\u{1e905}\u{1e92d}𞥅\u{1e924}\u{1e92e}|\u{1e915}\u{1e92e}\u{1e924}\u{1e93c}\u{1e92e}|\u{1e910}\u{1e926}\u{1e92e}𞥅\u{1e934}\u{1e92e}|\u{1e905}\u{1e92b}𞥅\u{1e93c}\u{1e92e}|\u{1e901}\u{1e935}𞥅\u{1e936}\u{1e92e}|\u{1e911}\u{1e92e}\u{1e92a}\u{1e927}\u{1e92e}|\u{1e903}\u{1e92e}\u{1e92a}\u{1e927}\u{1e92e}|\u{1e914}\u{1e935}\u{1e933}\u{1e92e}|\u{1e905}\u{1e92d}\u{1e924}\u{1e93c}\u{1e92e}|\u{1e912}\u{1e922}\u{1e92a}\u{1e933}\u{1e92e}|\u{1e914}\u{1e92e}\u{1e924}\u{1e92e}|\u{1e904}\u{1e92e}\u{1e931}\u{1e93c}\u{1e92e}" ∷
    utf8 "\u{1e905}|\u{1e915}|\u{1e904}|\u{1e905}|\u{1e901}|\u{1e911}|\u{1e903}|\u{1e914}|\u{1e905}|\u{1e912}|\u{1e914}|\u{1e904}" ∷
    utf8 "\u{1e905}\u{1e92d}𞥅\u{1e924}|\u{1e915}\u{1e92e}\u{1e924}|\u{1e910}\u{1e926}\u{1e92e}𞥅\u{1e934}|\u{1e905}\u{1e92b}𞥅\u{1e93c}|\u{1e901}\u{1e935}𞥅\u{1e936}|\u{1e911}\u{1e92e}\u{1e92a}|\u{1e903}\u{1e92e}\u{1e92a}|\u{1e914}\u{1e935}\u{1e933}|\u{1e905}\u{1e92d}\u{1e924}|\u{1e912}\u{1e922}\u{1e92a}|\u{1e914}\u{1e92e}\u{1e924}|\u{1e904}\u{1e92e}\u{1e931}" ∷
    utf8 "\u{1e908}\u{1e92b}\u{1e92c}|\u{1e900}𞥄\u{1e929}\u{1e935}|\u{1e903}\u{1e922}\u{1e926}|\u{1e914}\u{1e92b}\u{1e927}|\u{1e910}\u{1e922}𞥄\u{1e927}|\u{1e903}\u{1e922}\u{1e923}|\u{1e916}\u{1e92e}\u{1e92a}" ∷
    utf8 "\u{1e908}\u{1e92b}\u{1e92c}\u{1e926}\u{1e92d}\u{1e92a}𞥆\u{1e92b}|\u{1e900}𞥄\u{1e929}\u{1e935}\u{1e932}\u{1e94b}\u{1e923}\u{1e92b}|\u{1e903}\u{1e922}\u{1e931}\u{1e926}\u{1e922}𞥄\u{1e92a}\u{1e92b}|\u{1e910}\u{1e936}\u{1e92b}\u{1e927}\u{1e924}\u{1e922}𞥄\u{1e92a}\u{1e92b}|\u{1e910}\u{1e922}𞥄\u{1e927}\u{1e922}𞥄\u{1e932}\u{1e923}\u{1e92b}|\u{1e903}\u{1e922}\u{1e931}\u{1e932}\u{1e923}\u{1e92b}|\u{1e916}\u{1e92e}\u{1e92a}\u{1e926}\u{1e92d}\u{1e92a}𞥆\u{1e92b}" ∷
    utf8 "\u{1e908}|\u{1e900}𞥄|\u{1e903}|\u{1e914}|\u{1e910}|\u{1e903}|\u{1e916}" ∷
    utf8 "\u{1e900}\u{1e900}\u{1e90b}|\u{1e907}\u{1e900}\u{1e90b}" ∷
    utf8 "\u{1e900}\u{1e923}\u{1e92e} \u{1e900}\u{1e932}𞥆\u{1e922}\u{1e926}\u{1e92d} \u{1e90b}𞥅\u{1e927}\u{1e922}𞥄|\u{1e907}\u{1e922}𞥄\u{1e931}\u{1e92e} \u{1e900}\u{1e932}𞥆\u{1e922}\u{1e926}\u{1e92d} \u{1e90b}𞥅\u{1e927}\u{1e922}𞥄" ∷
    utf8 "\u{1e900}\u{1e90e}|\u{1e907}\u{1e90e}" ∷ utf8 "\u{1e922}|\u{1e929}" ∷
    utf8 "\u{1e911}\u{1e916}\u{1e918}||+||-||:" ∷
    utf8 "\u{1e911}\u{1e916}\u{1e90a}|\u{1e911}\u{1e92d}\u{1e936}\u{1e92e}𞥅\u{1e92a}\u{1e92b} \u{1e916}\u{1e92d}\u{1e924}𞥆\u{1e922}\u{1e932}\u{1e933}\u{1e92e}𞥅\u{1e92a}\u{1e92b} \u{1e90a}\u{1e92e}\u{1e932}\u{1e923}\u{1e922}𞥄\u{1e932}\u{1e923}\u{1e92b}" ∷
    utf8 "H 'h' mm 'min' ss 's' zzzz" ∷ utf8 "h 'h' B" ∷ utf8 "h 'h' mm B" ∷ utf8 "h 'h' mm 'min' ss 's' B" ∷
    utf8 "E h 'h' B" ∷ utf8 "E h 'h' mm B" ∷ utf8 "E h 'h' mm 'min' ss 's' B" ∷ utf8 "E HH 'h' mm" ∷
    utf8 "E HH 'h' mm 'min' ss 's'" ∷ utf8 "E h 'h' a" ∷ utf8 "E h 'h' mm a" ∷ utf8 "E h 'h' mm 'min' ss 's' a" ∷
    utf8 "E y-MM-dd G" ∷ utf8 "HH 'h' mm 'min' ss 's' zzzz" ∷ utf8 "HH 'h' mm 'min' ss 's' z" ∷
    utf8 "HH 'h' mm 'min' ss 's'" ∷ utf8 "HH 'h' mm" ∷ utf8 "HH 'h' mm 'min' ss 's' v" ∷ utf8 "HH 'h' mm v" ∷
    utf8 "E MM-dd" ∷ utf8 "h 'h' a" ∷ utf8 "h 'h' mm a" ∷ utf8 "h 'h' mm 'min' ss 's' a" ∷
    utf8 "h 'h' mm 'min' ss 's' a v" ∷ utf8 "h 'h' mm a v" ∷ utf8 "h 'h' a v" ∷ utf8 "mm 'min' ss 's'" ∷
    utf8 "janv.|févr.|mars|avr.|mai|juin|juill.|août|sept.|oct.|nov.|déc." ∷
    utf8 "|midi|du mat.|après-midi|du soir|du mat.||||" ∷ utf8 "|midi|mat.|après-midi|du soir|mat.||||" ∷
    utf8 "HH.mm:ss 'h' zzzz" ∷
    []

unfoldable pub texts_35 : List Text
texts_35 =
    utf8 "|midi|du mat.|de l’ap.m.|du soir|du mat.||||" ∷ utf8 "E h:mm" ∷ utf8 "E h:mm:ss" ∷ utf8 "h" ∷ utf8 "h:mm" ∷
    utf8 "h:mm:ss" ∷ utf8 "h:mm:ss v" ∷ utf8 "h:mm v" ∷ utf8 "mat.|soir" ∷ utf8 "matin|soir" ∷
    utf8 "|midi|du matin|de l’après-midi|du soir|de la nuit||||" ∷
    utf8 "jan.|fév.|mar.|avr.|mai|jui.|juil.|août|sept.|oct.|nov.|déc." ∷ utf8 "EEEE, d MMM, y G" ∷
    utf8 "1, 0 'par'" ∷ utf8 "mahina|din|ghanta|minute|second|am/pm" ∷
    utf8 "Ravi|Som|Mangal|Budh|Guru|Shukra|Shani" ∷
    utf8 "Raviwaar|Somwaar|Mangalwaar|Budhwaar|Guruwaar|Shukrawaar|Shaniwaar" ∷ utf8 "Ra|So|Ma|Bu|Gu|Sh|Sha" ∷
    utf8 "5555222222223333444455551" ∷ utf8 "|noon|subah|dopahar|shaam|raat||||" ∷
    utf8 "|Madhyanh|subah|dopahar|shaam|raat||||" ∷ utf8 "|n|subah|dopahar|shaam|raat||||" ∷ utf8 "d. M. yy." ∷
    utf8 "G y-MM-dd، E" ∷ utf8 "G y، d- MMM، E" ∷ utf8 "G y، d- MMM" ∷ utf8 "G d-M-y" ∷ utf8 "d- MMM، E" ∷
    utf8 "d- MMMM" ∷ utf8 "d- MMM" ∷ utf8 "y، d- MMMM، EEEE" ∷ utf8 "y، d- MMMM" ∷ utf8 "y d- MMM" ∷
    utf8 "y d- MMM، E" ∷ utf8 "y، d- MMM" ∷
    utf8 "\u{627}\u{64a}|\u{643}\u{6c7}\u{646}|\u{633}\u{627}\u{639}\u{627}\u{62a}|\u{645}\u{64a}\u{646}\u{6cb}\u{62a}|\u{633}\u{6d5}\u{643}\u{6cb}\u{646}\u{62f}|\u{62a}\u{6c7}\u{633}\u{643}\u{6d5} \u{62f}\u{6d5}\u{64a}\u{649}\u{646}/\u{62a}\u{6c7}\u{633}\u{62a}\u{6d5}\u{646} \u{643}\u{6d5}\u{64a}\u{649}\u{646}" ∷
    utf8 "\u{642}\u{627}\u{6ad}\u{62a}\u{627}\u{631}|\u{627}\u{642}\u{67e}\u{627}\u{646}|\u{646}\u{627}\u{6cb}\u{631}\u{649}\u{632}|\u{621}\u{633}\u{627}\u{6cb}\u{649}\u{631}|\u{645}\u{627}\u{645}\u{649}\u{631}|\u{645}\u{627}\u{6cb}\u{633}\u{649}\u{645}|\u{634}\u{649}\u{644}\u{62f}\u{6d5}|\u{62a}\u{627}\u{645}\u{649}\u{632}|\u{642}\u{649}\u{631}\u{643}\u{6c7}\u{64a}\u{6d5}\u{643}|\u{642}\u{627}\u{632}\u{627}\u{646}|\u{642}\u{627}\u{631}\u{627}\u{634}\u{627}|\u{62c}\u{6d5}\u{644}\u{62a}\u{648}\u{642}\u{633}\u{627}\u{646}" ∷
    utf8 "\u{62c}\u{6d5}\u{643}|\u{62f}\u{6c7}\u{64a}|\u{633}\u{6d5}\u{64a}|\u{633}\u{627}\u{631}|\u{628}\u{6d5}\u{64a}|\u{62c}\u{6c7}\u{645}|\u{633}\u{6d5}\u{646}" ∷
    utf8 "\u{62c}\u{6d5}\u{643}\u{633}\u{6d5}\u{646}\u{628}\u{649}|\u{62f}\u{6c7}\u{64a}\u{633}\u{6d5}\u{646}\u{628}\u{649}|\u{633}\u{6d5}\u{64a}\u{633}\u{6d5}\u{646}\u{628}\u{649}|\u{633}\u{627}\u{631}\u{633}\u{6d5}\u{646}\u{628}\u{649}|\u{628}\u{6d5}\u{64a}\u{633}\u{6d5}\u{646}\u{628}\u{649}|\u{62c}\u{6c7}\u{645}\u{627}|\u{633}\u{6d5}\u{646}\u{628}\u{649}" ∷
    utf8 "\u{62c}|\u{62f}|\u{633}|\u{633}|\u{628}|\u{62c}|\u{633}" ∷ utf8 "\u{628} \u{632} \u{62f}|\u{628} \u{632}" ∷
    utf8 "\u{621}\u{628}\u{649}\u{632}\u{62f}\u{649}\u{6ad} \u{632}\u{627}\u{645}\u{627}\u{646}\u{649}\u{645}\u{649}\u{632}\u{639}\u{627} \u{62f}\u{6d5}\u{64a}\u{649}\u{646}|\u{621}\u{628}\u{649}\u{632}\u{62f}\u{649}\u{6ad} \u{632}\u{627}\u{645}\u{627}\u{646}\u{649}\u{645}\u{649}\u{632}" ∷
    utf8 "\u{62a} \u{62f}|\u{62a} \u{643}" ∷
    utf8 "|\u{62a}\u{6c7}\u{633}\u{643}\u{649}|\u{62a}\u{627}\u{6ad}\u{639}\u{649}|\u{62a}\u{6c7}\u{633}\u{62a}\u{6d5}\u{646} \u{643}\u{6d5}\u{64a}\u{649}\u{646}\u{6af}\u{649}|\u{643}\u{6d5}\u{634}|\u{62a}\u{6c7}\u{646}\u{6af}\u{649}||||" ∷
    utf8 "|\u{62a}\u{6c7}\u{633}\u{643}\u{649}|\u{62a}\u{627}\u{6ad}\u{639}\u{649}|\u{62a}\u{6c7}\u{633}\u{62a}\u{6d5}\u{646} \u{643}\u{6d5}\u{64a}\u{649}\u{646}\u{6af}\u{649}|\u{643}\u{6d5}\u{634}\u{649}|\u{62a}\u{6c7}\u{646}\u{6af}\u{649}||||" ∷
    utf8 "UTC|\u{62f}\u{6c7}\u{646}\u{64a}\u{6d5}\u{62c}\u{6c7}\u{632}\u{649}\u{644}\u{649}\u{643} \u{6c7}\u{64a}\u{644}\u{6d5}\u{633}\u{62a}\u{649}\u{631}\u{649}\u{644}\u{6af}\u{6d5}\u{646} \u{6cb}\u{627}\u{642}\u{649}\u{62a}" ∷
    utf8 "B h 'vaztam'" ∷ utf8 "E B h 'vaztam'" ∷ utf8 "E a h 'vaztam'" ∷ utf8 "d-M-y G" ∷ utf8 "HH'v'" ∷
    utf8 "HH'v' v" ∷ utf8 "a h 'vaztam'" ∷ utf8 "a h 'vaztam' v" ∷ utf8 "1, 0 'vaztam'" ∷
    utf8 "mhoino|dis|vor|minut|sekond|AM/PM" ∷ utf8 "Jan|Feb|Mar|Abr|Mai|Jun|Jul|Ago|Set|Otu|Nov|Dez" ∷
    utf8 "Janer|Febrer|Mars|Abril|Mai|Jun|Julai|Agost|Setembr|Otubr|Novembr|Dezembr" ∷
    utf8 "Ait|Som|Mon|Bud|Bre|Suk|Son" ∷ utf8 "Aitar|Somar|Mongllar|Budhvar|Birestar|Sukrar|Sonvar" ∷
    utf8 "A|S|M|B|B|S|S" ∷ utf8 "KA|AD" ∷ utf8 "Krista Adim|Anno Domini" ∷ utf8 "K|A" ∷ utf8 "sokallim|sanje" ∷
    utf8 "||sokall|donpar|sanj|rat||||" ∷ utf8 "||sokallim|donparam|sanje|rati||||" ∷ utf8 "||sk|dp|sj|rt||||" ∷
    utf8 "UTC|Vixvacho Somonvoyit Vell" ∷ utf8 "0 पेठ 1" ∷
    utf8 "माह|दोह|गनटि|मिनट|सेकंड|AM/PM" ∷
    utf8 "जनवरी|फ़रवरी|मार्च|अप्रैल|मई|जून|जुलाई|अगस्त|सतुंबर|अक्तूबर|नवूमबर|दसमबर" ∷
    utf8 "जनवरी|फ़रवरी|मार्च|अप्रैल|मई|जून|जुलाई|अगस्त|सतमबर|अक्तूबर|नवमबर|दसमबर" ∷
    utf8 "ज|फ़|म|अ|म|ज|ज|अ|स|ओ|न|द" ∷
    utf8 "जनवरी|फ़रवरी|मार्च|अप्रैल|मई|जून|जुलाई|अगस्त|सतुंबर|अकतुम्बर|नवूमबर|दसमबर" ∷
    utf8 "जनवरी|फ़रवरी|मार्च|अप्रैल|मई|जून|जुलाई|अगस्त|सतुंबर|अकतुम्बर|नवूमबर|दसूमबर" ∷
    utf8 "आथवार|चंदिरवार|बुवार|बोदवार|ब्रेसवार|जुमा|बटवार" ∷
    utf8 "आथवार|च़ंदिरवार|बोमवार|बोदवार|ब्रेसवार|जुमा|बटवार" ∷
    utf8 "अ|च|ब|ब|ब|ज|ब" ∷
    utf8 "आथवार|चंदिरवार|बुवार|बोदवार|ब्रेसवार|जुम्मा|बटवार" ∷
    utf8 "ईसा ब्रोंठ|ईस्वी" ∷ utf8 "ये एम|पी एम" ∷
    utf8 "जी एम टी ||+||-||:" ∷ utf8 "UTC|कोऑर्डनैटिड यूनवर्सल वख" ∷
    utf8 "1 आँ 0" ∷
    utf8 "लेञ्जु|दिना|बेला|मिनिट|सेकेन्ड|ए-एम/पी-एम" ∷
    utf8 "पुसु|माहा|पागु|हिर्रे|बेसे|जाट्टा|आसाड़ी|स्राबाँ|बाॅदो|दासारा|दिवी|पान्डे" ∷
    utf8 "पुसु लेञ्जु|माहाका लेञ्जु|पागुणी लेञ्जु|हिरे लेञ्जु|बेसे लेञ्जु|जाटा लेञ्जु|आसाड़ी लेञ्जु|स्राबाँ लेञ्जु|बोदो लेञ्जु|दसारा लेञ्जु|दिवी लेञ्जु|पान्डे लेञ्जु" ∷
    utf8 "पु|मा|पा|हि|बे|जा|आ|स्रा|बाॅ|दा|दि|पा" ∷
    utf8 "आदि|साॅम्मा|मान्गा|पूदा|लाक्की|सुकुरु|सान्नि" ∷
    utf8 "आदि वारा|साॅम्वारा|मंगाड़ा|पुद्दारा|लाक्कि वारा|सुकुरु वारा|सान्नि वारा" ∷
    utf8 "आ|साॅ|मा|पू|ला|सु|सा" ∷ utf8 "बिसि|ए-डि" ∷
    utf8 "बिफोर क्राइस्ट|अन्नो डोमिनी" ∷
    utf8 "ए एम|पी एम" ∷ utf8 "1 ଆଁ 0" ∷
    utf8 "ଲେଞ୍ଜୁ|ଦିନା|ବେଲା|ମିନିଟ|ସେକେଣ୍ଡ|AM/PM" ∷
    utf8 "ପୁସୁ|ମାହା|ପାଗୁ|ହିରେ|ବେସେ|ଜାଟା|ଆସାଡ଼ି|ସ୍ରାବାଁ|ବଦ|ଦାସାରା|ଦିୱି|ପାଣ୍ଡେ" ∷
    utf8 "ପୁସୁ ଲେଞ୍ଜୁ|ମାହାକା ଲେଞ୍ଜୁ|ପାଗୁଣି ଲେଞ୍ଜୁ|ହିରେ ଲେଞ୍ଜୁ|ବେସେ ଲେଞ୍ଜୁ|ଜାଟା ଲେଞ୍ଜୁ|ଆସାଡ଼ି ଲେଞ୍ଜୁ|ସ୍ରାବାଁ ଲେଞ୍ଜୁ|ବଦ ଲେଞ୍ଜୁ|ଦାସାରା ଲେଞ୍ଜୁ|ଦିୱିଡ଼ି ଲେଞ୍ଜୁ|ପାଣ୍ଡେ ଲେଞ୍ଜୁ" ∷
    utf8 "ପୁ|ମା|ପା|ହି|ବେ|ଜା|ଆ|ସ୍ରା|ବ|ଦା|ଦି|ପା" ∷
    utf8 "ଆଦି|ସମ୍ବା|ମାଙ୍ଗା|ପୁଦା|ଲାକି|ସୁକ୍ରୁ|ସାନି" ∷
    utf8 "ଆଦି ୱାରା|ସମ୍ବାରା|ମାଙ୍ଗାଡ଼ା|ପୁଦାରା|ଲାକି ୱାରା|ସୁକ୍ରୁ ୱାରା|ସାନି ୱାରା" ∷
    utf8 "ଆ|ସ|ମା|ପୁ|ଲା|ସୁ|ସା" ∷ utf8 "ବିସି|ଏଡି" ∷
    utf8 "ବିଫୋର କ୍ରାଇଷ୍ଟ|ଆନ୍ନା ଡୋମିନି" ∷
    utf8 "ଏ ଏମ|ପି ଏମ" ∷ utf8 "ଏ|ପି" ∷
    utf8 "UTC|ସମାନି ଜାଗା ପ୍ରୁତି ବେଲା" ∷ utf8 "1 త 0" ∷
    utf8 "నెల|దినం|గంట|నిమిషము|సెకను|AM/PM" ∷
    utf8 "మాగ|గుండు|హిరెఇ|బెసెకి|లండి|రాత|బాన్దపాణా|బార్సి|అస్ర|దివెడి|పాండు|పుసు" ∷
    utf8 "మా|గు|హి|బె|ల|రా|బా|బా|అ|ది|పా|పు" ∷
    utf8 "వారమి|నమారా|మాంగాడా|వుదారా|లాకివరా|నుక్ వరా|సానివరా" ∷
    utf8 "వా|న|మా|వు|ల|ను|సా" ∷
    utf8 "క్రీన్తు వూర్వం|క్రీస్తు సకం" ∷
    utf8 "ఎ ఎమ్|పి ఎమ్" ∷ utf8 "ఎ|పి" ∷ utf8 "D|W|Q|R|K|J|S" ∷ utf8 "KD|BA" ∷
    utf8 "\u{645}\u{6c1}\u{64a}\u{646}\u{627}|\u{62f}\u{626}\u{646}|\u{6af}\u{6be}\u{646}\u{679}\u{627}|\u{645}\u{646}\u{679}|Second|Dayperiod" ∷
    []

unfoldable pub texts_36 : List Text
texts_36 =
    utf8 "\u{62c}\u{646}\u{648}\u{631}\u{6cc}|\u{641}\u{631}\u{648}\u{631}\u{6cc}|\u{645}\u{627}\u{631}\u{686}|\u{627}\u{67e}\u{631}\u{6cc}\u{644}|\u{645}\u{626}|\u{62c}\u{648}\u{646}|\u{62c}\u{648}\u{644}\u{627}\u{626}\u{6cc}|\u{627}\u{6af}\u{633}\u{62a}|\u{633}\u{62a}\u{645}\u{628}\u{631}|\u{627}\u{6a9}\u{62a}\u{648}\u{628}\u{631}|\u{646}\u{648}\u{645}\u{628}\u{631}|\u{62f}\u{633}\u{645}\u{628}\u{631}" ∷
    utf8 "\u{627}\u{62a}\u{648}\u{627}\u{631}|\u{67e}\u{6cc}\u{631}|\u{645}\u{646}\u{6af}\u{644}|\u{628}ُ\u{62f}\u{6be}|\u{62c}\u{645}\u{639}\u{631}\u{627}\u{62a}|\u{62c}\u{645}\u{639}\u{6c1}|\u{6c1}\u{641}\u{62a}\u{6c1}" ∷
    utf8 "\u{627}\u{64a}\u{633}\u{627}\u{67e}\u{648}\u{631}\u{648}|\u{633}\u{6ba}" ∷ utf8 "E, d/MM" ∷
    utf8 "ccc, d 'de' MMMM" ∷ utf8 "EEEE, d/MM/y" ∷ utf8 "E, d/MM/y" ∷ utf8 "ccc, d 'de' MMMM 'de' y" ∷
    utf8 "mês|dia|hora|minuto|segundo|am/pm" ∷ utf8 "domingo|segunda|terça|quarta|quinta|sexta|sábado" ∷
    utf8 "da manhã|da tarde" ∷ utf8 "|meio-dia|manhã|tarde|noite|madrugada||||" ∷
    utf8 "UTC|Hora Coordenada Universal" ∷ utf8 "Dum|Lun|Mar|Mie|Joi|Vin|Sâm" ∷ utf8 "D|L|Ma|Mi|J|V|S" ∷
    utf8 "|amiază|dimineață|după-amiază|seară|noapte||||" ∷ utf8 "ccc, d.MM.y" ∷ utf8 "1 ते 0" ∷
    utf8 "महिनो|दीं॒हुं|कलाक|मिंटु|सेकिंडु|दीं॒हुं/ रातु" ∷
    utf8 "जन|फर|मार्च|अप्रै|मई|जून|जु|अग|सप्टे|ऑक्टो|नवं|डिसं" ∷
    utf8 "जनवरी|फेबरवरी|मार्चु|अप्रेल|मई|जून|जुलाई|आगस्ट|सप्टेंबर|आक्टोबर|नवंबर|डिसंबर" ∷
    utf8 "ज|फ़|मा|अ|मा|जू|जु|अग|स|ऑ|न|डि" ∷
    utf8 "जन|फर|मार्च|अप्रै|मई|जून|जुला|अग|सप्टे|ऑक्टो|नवं|डिसं" ∷
    utf8 "जनवरी|फेबरवरी|मार्चु|अप्रेल|मई|जून|जुलाई|आगस्ट|सप्टेंबर|ऑक्टोबर|नवंबर|डिसंबर" ∷
    utf8 "ज|फ़|म|अ|मा|जू|जु|अग|स|ऑ|न|डि" ∷
    utf8 "आर्त|सू|मंग|ॿुध|विस|जुम|छंछ" ∷
    utf8 "आर्तवार|सूमर|मंगलु|ॿुधर|विस्पत|जुमो|छंछर" ∷
    utf8 "आ|सू|मं|ॿु|वि|जु|छं" ∷
    utf8 "आ|सू|मं|बुध|विस|जु|छंछ" ∷
    utf8 "आर्त|सू|मं|बु॒ध|विस|जुम|छंछ" ∷
    utf8 "आ|सू|मं|बु॒|वि|जु|छं" ∷ utf8 "बीसी|एडी" ∷
    utf8 "सुबुह जा|शाम जा" ∷
    utf8 "UTC|गदि॒यल आलमी वक्तु" ∷ utf8 "mánnu|beaivi|diibmu|minuhtta|sekunda|ib/eb" ∷
    utf8 "ođđj|guov|njuk|cuoŋ|mies|geas|suoi|borg|čakč|golg|skáb|juov" ∷ utf8 "so|má|di|ga|du|be|lá" ∷
    utf8 "sotnabeaivi|mánnodat|disdat|gaskavahkku|duorastat|bearjadat|lávvordat" ∷ utf8 "S|M|D|G|D|B|L" ∷
    utf8 "ovdal Kristusa|maŋŋel Kristusa" ∷ utf8 "ib|eb" ∷ utf8 "i|e" ∷ utf8 "UTC|koordinerejuvvon oktasaš áigi" ∷
    utf8 "mjesec|dan|sat|minut|sekund|prije podne/po podne" ∷ utf8 "prije podne|po podne" ∷
    utf8 "UTC|Koordinisano univerzalno vrijeme" ∷
    utf8 "ayyur|ass|tasragt|tusdidt|tasint|tizi g wass: tifawt / tadggʷat" ∷
    utf8 "inn|bṛa|maṛ|ibr|may|yun|yul|ɣuc|cut|ktu|nuw|duj" ∷
    utf8 "innayr|bṛayṛ|maṛṣ|ibrir|mayyu|yunyu|yulyuz|ɣuct|cutanbir|ktubr|nuwanbir|dujanbir" ∷
    utf8 "i|b|m|i|m|y|y|ɣ|c|k|n|d" ∷ utf8 "asa|ayn|asi|akṛ|akw|asim|asiḍ" ∷
    utf8 "asamas|aynas|asinas|akṛas|akwas|asimwas|asiḍyas" ∷ utf8 "daɛ|dfɛ" ∷ utf8 "dat n ɛisa|dffir n ɛisa" ∷
    utf8 "tifawt|tadggʷat" ∷ utf8 "мјесец|дан|сат|минут|секунд|прије подне/по подне" ∷ utf8 "прије подне|по подне" ∷
    utf8 "|подне|ујутро|по подне|увече|ноћу||||" ∷ utf8 "|podne|ujutru|po podne|uveče|noću||||" ∷
    utf8 "jan|feb|mart|apr|maj|jun|jul|avg|sept|okt|nov|dec" ∷
    utf8 "nedjelja|ponedeljak|utorak|srijeda|četvrtak|petak|subota" ∷ utf8 "|podne|jutro|po pod.|veče|noću||||" ∷
    utf8 "|podne|jutro|po pod.|veče|noć||||" ∷ utf8 "јан|феб|март|апр|мај|јун|јул|авг|септ|окт|нов|дец" ∷
    utf8 "|подне|јутро|по под.|увече|ноћу||||" ∷ utf8 "|подне|јутро|по под.|вече|ноћ||||" ∷
    utf8 "mwezi|siku|saa|dakika|sekunde|Muda wa siku" ∷ utf8 "1 'saa' 0" ∷ utf8 "UTC|Saa ya Dunia" ∷
    utf8 "\u{62c}\u{646}\u{648}|\u{641}\u{628}\u{631}|\u{645}\u{627}\u{631}|\u{627}\u{67e}\u{631}|\u{645}\u{6cc}|\u{62c}\u{648}\u{646}|\u{62c}\u{648}\u{644}|\u{627}\u{6af}\u{633}|\u{633}\u{67e}\u{62a}|\u{627}\u{6a9}\u{62a}|\u{646}\u{648}\u{645}|\u{62f}\u{633}\u{645}" ∷
    utf8 "\u{6cc}.|\u{62f}.|\u{633}.|\u{686}.|\u{67e}.|\u{62c}.|\u{634}." ∷
    utf8 "Ой|Кун|Соат|Дақиқа|Сония|Кун вақти" ∷
    utf8 "январ|феврал|март|апрел|май|июн|июл|август|сентябр|октябр|ноябр|декабр" ∷
    utf8 "якш|душ|сеш|чор|пай|жум|шан" ∷ utf8 "якшанба|душанба|сешанба|чоршанба|пайшанба|жума|шанба" ∷
    utf8 "Я|Д|С|Ч|П|Ж|Ш" ∷ utf8 "м.а.|милодий" ∷ utf8 "милоддан аввалги|милодий" ∷ utf8 "ТО|ТК" ∷
    utf8 "|туш пайти|эрталаб|кундузи|кечқурун|кечаси||||" ∷ utf8 "kalo|tele|hawa|mini|jaki-jaka|Dayperiod" ∷
    utf8 "lahadi|tɛɛnɛɛ|talata|alaba|aimisa|aijima|siɓiti" ∷
    utf8 "Osù|Ɔjɔ́|Wákàtí|Ìsɛ́jú|Ìsɛ́jú Ààyá|Àárɔ̀/ɔ̀sán" ∷
    utf8 "Oshù Shɛ́rɛ́|Oshù Èrèlè|Oshù Ɛrɛ̀nà|Oshù Ìgbé|Oshù Ɛ̀bibi|Oshù Òkúdu|Oshù Agɛmɔ|Oshù Ògún|Oshù Owewe|Oshù Ɔ̀wàrà|Oshù Bélú|Oshù Ɔ̀pɛ̀" ∷
    utf8 "S|È|Ɛ|Ì|Ɛ̀|Ò|A|Ò|O|Ɔ̀|B|Ɔ̀" ∷
    utf8 "Àìkú|Ajé|Ìsɛ́gun|Ɔjɔ́rú|Ɔjɔ́bɔ|Ɛtì|Àbámɛ́ta" ∷
    utf8 "Ɔjɔ́ Àìkú|Ɔjɔ́ Ajé|Ɔjɔ́ Ìsɛ́gun|Ɔjɔ́rú|Ɔjɔ́bɔ|Ɔjɔ́ Ɛtì|Ɔjɔ́ Àbámɛ́ta" ∷
    utf8 "À|A|Ì|Ɔ|Ɔ|Ɛ|À" ∷ utf8 "Àárɔ̀|Ɔ̀sán" ∷ utf8 "UTC|Àpapɔ̀ Àkókò Àgbáyé" ∷
    utf8 "yasí|ara|hura|minutu|segũdu|a.\u{a0}m./p.\u{a0}m." ∷ utf8 "Bh点" ∷ utf8 "EBh点" ∷ utf8 "Eah 点" ∷ utf8 "H点" ∷
    utf8 "HH:mm:ss [zzzz]" ∷ utf8 "HH:mm:ss [z]" ∷ utf8 "HH点 (v)" ∷ utf8 "ah点 (v)" ∷ utf8 "上昼|下昼" ∷
    utf8 "||清晨|中午|夜晚|凌晨|朝早|下昼||" ∷ utf8 "UTC|协调世界时间" ∷ utf8 "Bh時" ∷ utf8 "EBh時" ∷ utf8 "Eah時" ∷ utf8 "Gy/M/d（E）" ∷
    utf8 "vH時" ∷ utf8 "d/M（E）" ∷ utf8 "vah時" ∷ utf8 "d/M/y（E）" ∷ utf8 "月|日|小時|分鐘|秒|時段" ∷
    utf8 "週日|週一|週二|週三|週四|週五|週六" ∷ utf8 "UTC|世界標準時間" ∷ utf8 "Bh:mm:ss [zzzz]" ∷ utf8 "Bh:mm:ss [z]" ∷
    utf8 "Bh:mm:ss [v]" ∷ utf8 "Bh:mm [v]" ∷ utf8 "ah v" ∷ utf8 "zzzz ah:mm:ss" ∷ utf8 "z ah:mm:ss" ∷
    []

unfoldable pub texts_37 : List Text
texts_37 =
    utf8 "M-dE" ∷ utf8 "y年M月d日，E" ∷ utf8 "недјеља|понедељак|уторак|сриједа|четвртак|петак|субота" ∷
    utf8 "|подне|јутро|по под.|вече|ноћу||||" ∷ utf8 "|podne|ujutro|po podne|uveče|noću||||" ∷
    utf8 "|podne|jutro|po pod.|uveče|noću||||" ∷
    []

-- the text of a number; the empty one if there is none
abbrev pub text_numbered : ℕ → Text
text_numbered number = if number / 120 == 0 then list_at texts_1 (number % 120) else (if number / 120 == 1 then list_at texts_2 (number % 120) else (if number / 120 == 2 then list_at texts_3 (number % 120) else (if number / 120 == 3 then list_at texts_4 (number % 120) else (if number / 120 == 4 then list_at texts_5 (number % 120) else (if number / 120 == 5 then list_at texts_6 (number % 120) else (if number / 120 == 6 then list_at texts_7 (number % 120) else (if number / 120 == 7 then list_at texts_8 (number % 120) else (if number / 120 == 8 then list_at texts_9 (number % 120) else (if number / 120 == 9 then list_at texts_10 (number % 120) else (if number / 120 == 10 then list_at texts_11 (number % 120) else (if number / 120 == 11 then list_at texts_12 (number % 120) else (if number / 120 == 12 then list_at texts_13 (number % 120) else (if number / 120 == 13 then list_at texts_14 (number % 120) else (if number / 120 == 14 then list_at texts_15 (number % 120) else (if number / 120 == 15 then list_at texts_16 (number % 120) else (if number / 120 == 16 then list_at texts_17 (number % 120) else (if number / 120 == 17 then list_at texts_18 (number % 120) else (if number / 120 == 18 then list_at texts_19 (number % 120) else (if number / 120 == 19 then list_at texts_20 (number % 120) else (if number / 120 == 20 then list_at texts_21 (number % 120) else (if number / 120 == 21 then list_at texts_22 (number % 120) else (if number / 120 == 22 then list_at texts_23 (number % 120) else (if number / 120 == 23 then list_at texts_24 (number % 120) else (if number / 120 == 24 then list_at texts_25 (number % 120) else (if number / 120 == 25 then list_at texts_26 (number % 120) else (if number / 120 == 26 then list_at texts_27 (number % 120) else (if number / 120 == 27 then list_at texts_28 (number % 120) else (if number / 120 == 28 then list_at texts_29 (number % 120) else (if number / 120 == 29 then list_at texts_30 (number % 120) else (if number / 120 == 30 then list_at texts_31 (number % 120) else (if number / 120 == 31 then list_at texts_32 (number % 120) else (if number / 120 == 32 then list_at texts_33 (number % 120) else (if number / 120 == 33 then list_at texts_34 (number % 120) else (if number / 120 == 34 then list_at texts_35 (number % 120) else (if number / 120 == 35 then list_at texts_36 (number % 120) else (list_at texts_37 (number % 120)))))))))))))))))))))))))))))))))))))
