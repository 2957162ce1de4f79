pub mod WhatFormatsDo
