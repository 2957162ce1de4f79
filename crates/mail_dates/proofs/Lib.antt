mod Calendars
mod Commenting
mod Cutting
mod Digits
mod Fronts
mod Parting
mod Picked
