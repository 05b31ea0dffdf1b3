-- The definition at a few options, by computing. Each row says what ECMA-402's `DateTimeFormat` says.
use Prim.Native.String.{String}
use Rattle.std.proofs.Common.{◌≡◌, refl, Option, Some, pos}
use Rattle.std.specs.Char.{encode_utf8}
use Rattle.std.specs.Fmt.{digits}
use Rattle.std.specs.Str.{chars}
use Rattle.std.specs.Prelude.{option_map, true}
use Rattle.fluent_date.specs.Options.{Options, no_options}
use Rattle.fluent_date.specs.declared.options.DateStyle.TheVariants as style
use Rattle.fluent_date.specs.declared.options.HourCycle.TheVariants as cycle
use Rattle.fluent_date.specs.declared.options.MonthWidth.TheVariants as month_width
use Rattle.fluent_date.specs.declared.options.NumberWidth.TheVariants as number_width
use Rattle.fluent_date.specs.declared.options.TextWidth.TheVariants as text_width
use Rattle.fluent_date.specs.declared.options.ZoneName.TheVariants as zone_name
use Rattle.fluent_date_tables.specs.Lists.{lists_1, lists_2, lists_3, lists_4, lists_5, lists_6, lists_7}
use Rattle.fluent_date_tables.specs.Rows.{rows}
use Rattle.fluent_date_tables.specs.Skeletons.{skeletons}
use Rattle.fluent_date_tables.specs.Tables.{Text, utf8}
use Rattle.fluent_date_tables.specs.Tags.{tags_a, tags_b, tags_c, tags_d, tags_e, tags_f, tags_g, tags_h, tags_i, tags_j, tags_k, tags_l, tags_m, tags_n, tags_o, tags_p, tags_q, tags_r, tags_s, tags_t, tags_u, tags_v, tags_w, tags_x, tags_y, tags_z}
use Rattle.fluent_date_tables.specs.Texts.{texts_1, texts_2, texts_3, texts_4, texts_5, texts_6, texts_7, texts_8, texts_9, texts_10, texts_11, texts_12, texts_13, texts_14, texts_15, texts_16, texts_17, texts_18, texts_19, texts_20, texts_21, texts_22, texts_23, texts_24, texts_25, texts_26, texts_27, texts_28, texts_29, texts_30, texts_31, texts_32, texts_33, texts_34, texts_35, texts_36, texts_37}
use Rattle.fluent_dates.specs.Lookup.{locale_for}
use Rattle.fluent_dates.specs.Writing.{date_text}

-- 28 November 2026, 20:26:05.123, on a clock that shows three hours less than UTC
abbrev written : String → Options → Option Text
written tag o =
    option_map (λ row. date_text row (record {
      date = record { year = pos 2026; month = 11; day = 28 };
      time = Some (record { hour = 20; minute = 26; second = 5; nanosecond = 123000000 });
      offset = Some (record { is_negative = true; seconds = 10800 });
      options = o;
    })) (locale_for (utf8 tag))

german_long : written "de" (record no_options { date_style = Some style.Long }) ≡ Some (utf8 "28. November 2026")
unfolding texts_1 texts_2 texts_3 texts_4 texts_5 texts_6 texts_7 texts_8 texts_9 texts_10 texts_11 texts_12 texts_13 texts_14 texts_15 texts_16 texts_17 texts_18 texts_19 texts_20 texts_21 texts_22 texts_23 texts_24 texts_25 texts_26 texts_27 texts_28 texts_29 texts_30 texts_31 texts_32 texts_33 texts_34 texts_35 texts_36 texts_37 lists_1 lists_2 lists_3 lists_4 lists_5 lists_6 lists_7 tags_a tags_b tags_c tags_d tags_e tags_f tags_g tags_h tags_i tags_j tags_k tags_l tags_m tags_n tags_o tags_p tags_q tags_r tags_s tags_t tags_u tags_v tags_w tags_x tags_y tags_z rows skeletons encode_utf8 chars digits
german_long = refl

english_month : written "en-US" (record no_options { month = Some (month_width.Text text_width.Long); year = Some number_width.Numeric }) ≡ Some (utf8 "November 2026")
unfolding texts_1 texts_2 texts_3 texts_4 texts_5 texts_6 texts_7 texts_8 texts_9 texts_10 texts_11 texts_12 texts_13 texts_14 texts_15 texts_16 texts_17 texts_18 texts_19 texts_20 texts_21 texts_22 texts_23 texts_24 texts_25 texts_26 texts_27 texts_28 texts_29 texts_30 texts_31 texts_32 texts_33 texts_34 texts_35 texts_36 texts_37 lists_1 lists_2 lists_3 lists_4 lists_5 lists_6 lists_7 tags_a tags_b tags_c tags_d tags_e tags_f tags_g tags_h tags_i tags_j tags_k tags_l tags_m tags_n tags_o tags_p tags_q tags_r tags_s tags_t tags_u tags_v tags_w tags_x tags_y tags_z rows skeletons encode_utf8 chars digits
english_month = refl

english_time : written "en" (record no_options { time_style = Some style.Short }) ≡ Some (utf8 "8:26 PM")
unfolding texts_1 texts_2 texts_3 texts_4 texts_5 texts_6 texts_7 texts_8 texts_9 texts_10 texts_11 texts_12 texts_13 texts_14 texts_15 texts_16 texts_17 texts_18 texts_19 texts_20 texts_21 texts_22 texts_23 texts_24 texts_25 texts_26 texts_27 texts_28 texts_29 texts_30 texts_31 texts_32 texts_33 texts_34 texts_35 texts_36 texts_37 lists_1 lists_2 lists_3 lists_4 lists_5 lists_6 lists_7 tags_a tags_b tags_c tags_d tags_e tags_f tags_g tags_h tags_i tags_j tags_k tags_l tags_m tags_n tags_o tags_p tags_q tags_r tags_s tags_t tags_u tags_v tags_w tags_x tags_y tags_z rows skeletons encode_utf8 chars digits
english_time = refl

japanese_full : written "ja_JP.UTF-8" (record no_options { date_style = Some style.Full }) ≡ Some (utf8 "2026年11月28日土曜日")
unfolding texts_1 texts_2 texts_3 texts_4 texts_5 texts_6 texts_7 texts_8 texts_9 texts_10 texts_11 texts_12 texts_13 texts_14 texts_15 texts_16 texts_17 texts_18 texts_19 texts_20 texts_21 texts_22 texts_23 texts_24 texts_25 texts_26 texts_27 texts_28 texts_29 texts_30 texts_31 texts_32 texts_33 texts_34 texts_35 texts_36 texts_37 lists_1 lists_2 lists_3 lists_4 lists_5 lists_6 lists_7 tags_a tags_b tags_c tags_d tags_e tags_f tags_g tags_h tags_i tags_j tags_k tags_l tags_m tags_n tags_o tags_p tags_q tags_r tags_s tags_t tags_u tags_v tags_w tags_x tags_y tags_z rows skeletons encode_utf8 chars digits
japanese_full = refl

english_fields : written "en" (record no_options { weekday = Some text_width.Short; year = Some number_width.Numeric; month = Some (month_width.Text text_width.Short); day = Some number_width.Numeric; hour = Some number_width.Numeric; minute = Some number_width.TwoDigit; time_zone_name = Some zone_name.ShortOffset }) ≡ Some (utf8 "Sat, Nov 28, 2026, 8:26 PM GMT-3")
unfolding texts_1 texts_2 texts_3 texts_4 texts_5 texts_6 texts_7 texts_8 texts_9 texts_10 texts_11 texts_12 texts_13 texts_14 texts_15 texts_16 texts_17 texts_18 texts_19 texts_20 texts_21 texts_22 texts_23 texts_24 texts_25 texts_26 texts_27 texts_28 texts_29 texts_30 texts_31 texts_32 texts_33 texts_34 texts_35 texts_36 texts_37 lists_1 lists_2 lists_3 lists_4 lists_5 lists_6 lists_7 tags_a tags_b tags_c tags_d tags_e tags_f tags_g tags_h tags_i tags_j tags_k tags_l tags_m tags_n tags_o tags_p tags_q tags_r tags_s tags_t tags_u tags_v tags_w tags_x tags_y tags_z rows skeletons encode_utf8 chars digits
english_fields = refl

english_appended : written "en" (record no_options { hour = Some number_width.Numeric; second = Some number_width.Numeric }) ≡ Some (utf8 "8 PM (second: 5)")
unfolding texts_1 texts_2 texts_3 texts_4 texts_5 texts_6 texts_7 texts_8 texts_9 texts_10 texts_11 texts_12 texts_13 texts_14 texts_15 texts_16 texts_17 texts_18 texts_19 texts_20 texts_21 texts_22 texts_23 texts_24 texts_25 texts_26 texts_27 texts_28 texts_29 texts_30 texts_31 texts_32 texts_33 texts_34 texts_35 texts_36 texts_37 lists_1 lists_2 lists_3 lists_4 lists_5 lists_6 lists_7 tags_a tags_b tags_c tags_d tags_e tags_f tags_g tags_h tags_i tags_j tags_k tags_l tags_m tags_n tags_o tags_p tags_q tags_r tags_s tags_t tags_u tags_v tags_w tags_x tags_y tags_z rows skeletons encode_utf8 chars digits
english_appended = refl

german_fraction : written "de" (record no_options { minute = Some number_width.TwoDigit; second = Some number_width.TwoDigit; fractional_second_digits = Some 3 }) ≡ Some (utf8 "26:05,123")
unfolding texts_1 texts_2 texts_3 texts_4 texts_5 texts_6 texts_7 texts_8 texts_9 texts_10 texts_11 texts_12 texts_13 texts_14 texts_15 texts_16 texts_17 texts_18 texts_19 texts_20 texts_21 texts_22 texts_23 texts_24 texts_25 texts_26 texts_27 texts_28 texts_29 texts_30 texts_31 texts_32 texts_33 texts_34 texts_35 texts_36 texts_37 lists_1 lists_2 lists_3 lists_4 lists_5 lists_6 lists_7 tags_a tags_b tags_c tags_d tags_e tags_f tags_g tags_h tags_i tags_j tags_k tags_l tags_m tags_n tags_o tags_p tags_q tags_r tags_s tags_t tags_u tags_v tags_w tags_x tags_y tags_z rows skeletons encode_utf8 chars digits
german_fraction = refl

german_twelve : written "de" (record no_options { date_style = Some style.Medium; time_style = Some style.Medium; hour_cycle = Some cycle.H12 }) ≡ Some (utf8 "28.11.2026, 08:26:05 PM")
unfolding texts_1 texts_2 texts_3 texts_4 texts_5 texts_6 texts_7 texts_8 texts_9 texts_10 texts_11 texts_12 texts_13 texts_14 texts_15 texts_16 texts_17 texts_18 texts_19 texts_20 texts_21 texts_22 texts_23 texts_24 texts_25 texts_26 texts_27 texts_28 texts_29 texts_30 texts_31 texts_32 texts_33 texts_34 texts_35 texts_36 texts_37 lists_1 lists_2 lists_3 lists_4 lists_5 lists_6 lists_7 tags_a tags_b tags_c tags_d tags_e tags_f tags_g tags_h tags_i tags_j tags_k tags_l tags_m tags_n tags_o tags_p tags_q tags_r tags_s tags_t tags_u tags_v tags_w tags_x tags_y tags_z rows skeletons encode_utf8 chars digits
german_twelve = refl

arabic_both : written "ar-EG" (record no_options { date_style = Some style.Full; time_style = Some style.Full }) ≡ Some (utf8 "\u{627}\u{644}\u{633}\u{628}\u{62a}، \u{662}\u{668} \u{646}\u{648}\u{641}\u{645}\u{628}\u{631} \u{662}\u{660}\u{662}\u{666} \u{641}\u{64a} \u{668}:\u{662}\u{666}:\u{660}\u{665} \u{645} \u{63a}\u{631}\u{64a}\u{646}\u{62a}\u{634}-\u{660}\u{663}:\u{660}\u{660}")
unfolding texts_1 texts_2 texts_3 texts_4 texts_5 texts_6 texts_7 texts_8 texts_9 texts_10 texts_11 texts_12 texts_13 texts_14 texts_15 texts_16 texts_17 texts_18 texts_19 texts_20 texts_21 texts_22 texts_23 texts_24 texts_25 texts_26 texts_27 texts_28 texts_29 texts_30 texts_31 texts_32 texts_33 texts_34 texts_35 texts_36 texts_37 lists_1 lists_2 lists_3 lists_4 lists_5 lists_6 lists_7 tags_a tags_b tags_c tags_d tags_e tags_f tags_g tags_h tags_i tags_j tags_k tags_l tags_m tags_n tags_o tags_p tags_q tags_r tags_s tags_t tags_u tags_v tags_w tags_x tags_y tags_z rows skeletons encode_utf8 chars digits
arabic_both = refl

chinese_part : written "zh-TW" (record no_options { day_period = Some text_width.Long; hour = Some number_width.Numeric }) ≡ Some (utf8 "晚上8時")
unfolding texts_1 texts_2 texts_3 texts_4 texts_5 texts_6 texts_7 texts_8 texts_9 texts_10 texts_11 texts_12 texts_13 texts_14 texts_15 texts_16 texts_17 texts_18 texts_19 texts_20 texts_21 texts_22 texts_23 texts_24 texts_25 texts_26 texts_27 texts_28 texts_29 texts_30 texts_31 texts_32 texts_33 texts_34 texts_35 texts_36 texts_37 lists_1 lists_2 lists_3 lists_4 lists_5 lists_6 lists_7 tags_a tags_b tags_c tags_d tags_e tags_f tags_g tags_h tags_i tags_j tags_k tags_l tags_m tags_n tags_o tags_p tags_q tags_r tags_s tags_t tags_u tags_v tags_w tags_x tags_y tags_z rows skeletons encode_utf8 chars digits
chinese_part = refl

hawaiian_roman : written "haw" (record no_options { date_style = Some style.Short }) ≡ Some (utf8 "28/xi/26")
unfolding texts_1 texts_2 texts_3 texts_4 texts_5 texts_6 texts_7 texts_8 texts_9 texts_10 texts_11 texts_12 texts_13 texts_14 texts_15 texts_16 texts_17 texts_18 texts_19 texts_20 texts_21 texts_22 texts_23 texts_24 texts_25 texts_26 texts_27 texts_28 texts_29 texts_30 texts_31 texts_32 texts_33 texts_34 texts_35 texts_36 texts_37 lists_1 lists_2 lists_3 lists_4 lists_5 lists_6 lists_7 tags_a tags_b tags_c tags_d tags_e tags_f tags_g tags_h tags_i tags_j tags_k tags_l tags_m tags_n tags_o tags_p tags_q tags_r tags_s tags_t tags_u tags_v tags_w tags_x tags_y tags_z rows skeletons encode_utf8 chars digits
hawaiian_roman = refl

hebrew_mark : written "he" (record no_options { hour = Some number_width.Numeric; time_zone_name = Some zone_name.Long }) ≡ Some (utf8 "20h GMT-03:00\u{200e}\u{200e}")
unfolding texts_1 texts_2 texts_3 texts_4 texts_5 texts_6 texts_7 texts_8 texts_9 texts_10 texts_11 texts_12 texts_13 texts_14 texts_15 texts_16 texts_17 texts_18 texts_19 texts_20 texts_21 texts_22 texts_23 texts_24 texts_25 texts_26 texts_27 texts_28 texts_29 texts_30 texts_31 texts_32 texts_33 texts_34 texts_35 texts_36 texts_37 lists_1 lists_2 lists_3 lists_4 lists_5 lists_6 lists_7 tags_a tags_b tags_c tags_d tags_e tags_f tags_g tags_h tags_i tags_j tags_k tags_l tags_m tags_n tags_o tags_p tags_q tags_r tags_s tags_t tags_u tags_v tags_w tags_x tags_y tags_z rows skeletons encode_utf8 chars digits
hebrew_mark = refl

russian_alone : written "ru" (record no_options { month = Some (month_width.Text text_width.Long) }) ≡ Some (utf8 "ноябрь")
unfolding texts_1 texts_2 texts_3 texts_4 texts_5 texts_6 texts_7 texts_8 texts_9 texts_10 texts_11 texts_12 texts_13 texts_14 texts_15 texts_16 texts_17 texts_18 texts_19 texts_20 texts_21 texts_22 texts_23 texts_24 texts_25 texts_26 texts_27 texts_28 texts_29 texts_30 texts_31 texts_32 texts_33 texts_34 texts_35 texts_36 texts_37 lists_1 lists_2 lists_3 lists_4 lists_5 lists_6 lists_7 tags_a tags_b tags_c tags_d tags_e tags_f tags_g tags_h tags_i tags_j tags_k tags_l tags_m tags_n tags_o tags_p tags_q tags_r tags_s tags_t tags_u tags_v tags_w tags_x tags_y tags_z rows skeletons encode_utf8 chars digits
russian_alone = refl

english_era : written "en" (record no_options { weekday = Some text_width.Short; era = Some text_width.Short; month = Some (month_width.Number number_width.Numeric) }) ≡ Some (utf8 "AD (month: 11)")
unfolding texts_1 texts_2 texts_3 texts_4 texts_5 texts_6 texts_7 texts_8 texts_9 texts_10 texts_11 texts_12 texts_13 texts_14 texts_15 texts_16 texts_17 texts_18 texts_19 texts_20 texts_21 texts_22 texts_23 texts_24 texts_25 texts_26 texts_27 texts_28 texts_29 texts_30 texts_31 texts_32 texts_33 texts_34 texts_35 texts_36 texts_37 lists_1 lists_2 lists_3 lists_4 lists_5 lists_6 lists_7 tags_a tags_b tags_c tags_d tags_e tags_f tags_g tags_h tags_i tags_j tags_k tags_l tags_m tags_n tags_o tags_p tags_q tags_r tags_s tags_t tags_u tags_v tags_w tags_x tags_y tags_z rows skeletons encode_utf8 chars digits
english_era = refl

nothing_asked : written "fr-CA" no_options ≡ Some (utf8 "2026-11-28")
unfolding texts_1 texts_2 texts_3 texts_4 texts_5 texts_6 texts_7 texts_8 texts_9 texts_10 texts_11 texts_12 texts_13 texts_14 texts_15 texts_16 texts_17 texts_18 texts_19 texts_20 texts_21 texts_22 texts_23 texts_24 texts_25 texts_26 texts_27 texts_28 texts_29 texts_30 texts_31 texts_32 texts_33 texts_34 texts_35 texts_36 texts_37 lists_1 lists_2 lists_3 lists_4 lists_5 lists_6 lists_7 tags_a tags_b tags_c tags_d tags_e tags_f tags_g tags_h tags_i tags_j tags_k tags_l tags_m tags_n tags_o tags_p tags_q tags_r tags_s tags_t tags_u tags_v tags_w tags_x tags_y tags_z rows skeletons encode_utf8 chars digits
nothing_asked = refl
